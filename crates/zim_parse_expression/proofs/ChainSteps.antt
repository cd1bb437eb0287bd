-- What the parser makes of the levels with lists of operands, and of those above them, where it reads their parts.
use Rattle.std.proofs.Common.{◌≡◌, ℕ, zero, suc, ◌<◌, ◌≤◌, Bool, true, false, List, [], ◌∷◌, ◌++◌, length, Some, refl, ◌∙◌, append_assoc, length-append, arith}
use Rattle.zim_fault.specs.declared.faults.Place.{Place}
use Rattle.zim_fault.specs.declared.tokens.Token.{Token}
use Rattle.zim_fault.specs.declared.tokens.Token.TheVariants.{Word as word_token, Sign as sign_token}
use Rattle.zim_fault.specs.declared.tokens.Placed.{Placed}
use Rattle.zim_fault.specs.declared.signs.Sign.TheVariants.{SLess, SGreater}
use Rattle.zim_fault.specs.declared.words.Word.TheVariants.{WForall, WIn, WNot}
use Rattle.zim_tree.specs.declared.expr.Expr.{Expr}
use Rattle.zim_tree.specs.declared.expr.Expr.TheVariants as tree
use Rattle.zim_tree.specs.declared.expr.Index.{Index}
use Rattle.zim_tree.specs.declared.classes.Class.{Class}
use Rattle.zim_tree.specs.declared.classes.Class.TheVariants as class
use Rattle.zim_tree.specs.Trees.{angle_of}
use Rattle.zim_tree.specs.Classes.{token_class}
use Rattle.zim_tree.specs.Levels.{sum, comparison, negation, disjunction, whole, Chain, products, sums, relations, conjunctions, disjunctions, level_of, operand_of, joins, Limits, Operands, joined, placed, separator_token}
use Rattle.zim_scan.specs.Nesting.{class_at}
use Rattle.zim_parse_expression.specs.Next.{looseness, rank, level_bound, Start, a_less, start_at, start_of, is_open, opens}
use Rattle.zim_parse_expression.specs.Parser.{Inner, Parser, and_then, operands_of, turns_of, chain_of, sum_of, member_of, comparison_at, comparison_of, negation_at, negation_of, whole_at, expression_of, disjunction_of, at_level, parse}
use Rattle.zim_parse_expression.proofs.BeginningLaws.{no, is_term, is_compared, is_joined, allowed, factor_not_open}
use Rattle.zim_parse_expression.proofs.ListLaws.{joins_rank, operand_below, level_rank, no_operator, one_operator}
use Rattle.zim_parse_expression.proofs.PrimaryLaws.{Complete, CompleteList, CompleteIndex, deeper, tuple_reads}

-- operators, each with its operand
pub record CompleteOperands (chain : Chain) (us : List Placed) (others : Operands) : Type 0 where
  pub operators : (n : ℕ) → length us ≤ n → (rest : List Placed) → rank chain < looseness rest → (turns : ℕ) → length others ≤ turns →
      operands_of chain (at_level (parse n) (operand_of chain)) turns (us ++ rest) ≡ Some (others, rest)
  pub loose : (rest : List Placed) → rank chain < looseness rest → level_bound (operand_of chain) < looseness (us ++ rest)
  pub count : length others ≤ length us

pub complete_no_operand : (chain : Chain) → CompleteOperands chain [] []
complete_no_operand chain = record {
  operators = λ n h rest s turns t. no_operator chain (at_level (parse n) (operand_of chain)) turns rest s;
  loose = λ rest s. omega (arith, operand_below chain);
  count = omega arith;
}

not_open : (chain : Chain) (s : Start) → allowed (operand_of chain) s ≡ true → chain ≡ products → is_open s ≡ false
not_open products s h e = factor_not_open s h
not_open sums s h e = cc
not_open relations s h e = cc
not_open conjunctions s h e = cc
not_open disjunctions s h e = cc

pub complete_operand : (chain : Chain) (p : Place) (token : Token) {ts us : List Placed} {e : Expr} {others : Operands} → joins chain (token_class token) ≡ true →
    ((rest : List Placed) → allowed (operand_of chain) (start_of (ts ++ rest)) ≡ true) → Complete (operand_of chain) ts e → CompleteOperands chain us others →
    CompleteOperands chain (placed p token ∷ (ts ++ us)) ((p, token, e) ∷ others)
complete_operand chain p token {ts = ts} {us = us} {e = e} {others = others} j b d l =
    let ranked : (rest : List Placed) → looseness (placed p token ∷ (ts ++ (us ++ rest))) ≡ rank chain =
    λ rest. joins_rank chain (token_class token) (opens (ts ++ (us ++ rest))) j (not_open chain (start_of (ts ++ (us ++ rest))) (b (us ++ rest))) in
    record {
      operators = λ n h rest s turns. elim turns as (λ k. suc (length others) ≤ k → operands_of chain (at_level (parse n) (operand_of chain)) k ((placed p token ∷ (ts ++ us)) ++ rest) ≡ Some ((p, token, e) ∷ others, rest)) [
        | zero ↦ (λ t. absurd (omega arith))
        | suc k ↦ (λ t.
            let l1 : length ts ≤ n = omega (arith, length-append ts us, h) in
            let l2 : length us ≤ n = omega (arith, length-append ts us, h) in
            rw (append_assoc ts us rest)
            (one_operator chain (at_level (parse n) (operand_of chain)) k (placed p token) (ts ++ (us ++ rest)) (us ++ rest) rest e others (ranked rest)
            (d.reads n l1 (us ++ rest) (l.loose rest s)) (l.operators n l2 rest s k (omega arith))))
      ];
      loose = λ rest s. rw (append_assoc ts us rest) (let r = ranked rest in omega (arith, r, operand_below chain));
      count = omega (arith, length-append ts us, l.count);
    }

-- a list of operands

comparison_plain : (inner : Inner) (s : Start) (ts : List Placed) → is_term s ≡ true → comparison_at inner s ts ≡ chain_of relations (sum_of inner) ts
comparison_plain inner a_less ts h = no h
comparison_plain inner _ ts h = refl

level_chain : (inner : Inner) (chain : Chain) (ts : List Placed) → allowed (operand_of chain) (start_of ts) ≡ true →
    at_level inner (level_of chain) ts ≡ chain_of chain (at_level inner (operand_of chain)) ts
unfolding comparison_of and_then
level_chain inner products ts h = refl
level_chain inner sums ts h = refl
level_chain inner relations ts h = comparison_plain inner (start_of ts) ts h
level_chain inner conjunctions ts h = refl
level_chain inner disjunctions ts h = refl

enough_turns : (chain : Chain) (us rest : List Placed) (others : Operands) → Limits chain (length others) → length others ≤ length us → length others ≤ turns_of chain (us ++ rest)
enough_turns products us rest others k h = omega (arith, length-append us rest, h)
enough_turns sums us rest others k h = omega (arith, length-append us rest, h)
enough_turns relations us rest others k h = k
enough_turns conjunctions us rest others k h = omega (arith, length-append us rest, h)
enough_turns disjunctions us rest others k h = omega (arith, length-append us rest, h)

chain_reads : (chain : Chain) (operand : Parser Expr) (ts behind left : List Placed) (first : Expr) (others : Operands) →
    operand ts ≡ Some (first, behind) → operands_of chain operand (turns_of chain behind) behind ≡ Some (others, left) → chain_of chain operand ts ≡ Some (joined chain first others, left)
unfolding chain_of and_then
chain_reads chain operand ts behind left first others e f = rw (e, f) refl

pub complete_chain : (chain : Chain) {ts us : List Placed} {first : Expr} {others : Operands} → Limits chain (length others) →
    ((rest : List Placed) → allowed (operand_of chain) (start_of (ts ++ rest)) ≡ true) → Complete (operand_of chain) ts first → CompleteOperands chain us others →
    Complete (level_of chain) (ts ++ us) (joined chain first others)
complete_chain chain {ts = ts} {us = us} {first = first} {others = others} k b d l = record {
  reads = λ n h rest s.
      let stops : rank chain < looseness rest = omega (arith, level_rank chain, s) in
      let l1 : length ts ≤ n = omega (arith, length-append ts us, h) in
      let l2 : length us ≤ n = omega (arith, length-append ts us, h) in
      rw (append_assoc ts us rest)
      (level_chain (parse n) chain (ts ++ (us ++ rest)) (b (us ++ rest)) ∙
      chain_reads chain (at_level (parse n) (operand_of chain)) (ts ++ (us ++ rest)) (us ++ rest) rest first others
      (d.reads n l1 (us ++ rest) (l.loose rest stops)) (l.operators n l2 rest stops (turns_of chain (us ++ rest)) (enough_turns chain us rest others k l.count)));
}

-- comparisons and what stands above them

pub complete_member : (p q r : Place) {ts us : List Placed} {items : List Expr} {set : Expr} → CompleteList sum ts items → Complete sum us set →
    Complete comparison ((placed q (sign_token SLess) ∷ (ts ++ placed r (sign_token SGreater) ∷ [])) ++ placed p (word_token WIn) ∷ us) (tree.Member p (angle_of q items) set)
unfolding comparison_of member_of and_then
complete_member p q r {ts = ts} {us = us} l d = record {
  reads = λ n h rest s.
      let l1 : length ts < n = omega (arith, length-append (ts ++ placed r (sign_token SGreater) ∷ []) (placed p (word_token WIn) ∷ us), length-append ts (placed r (sign_token SGreater) ∷ []), h) in
      let l2 : length us ≤ n = omega (arith, length-append (ts ++ placed r (sign_token SGreater) ∷ []) (placed p (word_token WIn) ∷ us), h) in
      rw (
        append_assoc (ts ++ placed r (sign_token SGreater) ∷ []) (placed p (word_token WIn) ∷ us) rest,
        tuple_reads l q r n l1 (placed p (word_token WIn) ∷ (us ++ rest)),
        d.reads n l2 rest (omega arith),
      ) refl;
}

not_class : (inner : Inner) (k : Class) (t : Placed) (rest : List Placed) → is_compared (start_at k rest) ≡ true → negation_at inner k t rest ≡ comparison_of inner (t ∷ rest)
not_class inner class.Not t rest h = no h
not_class inner _ t rest h = refl

no_negation : (inner : Inner) (ts : List Placed) → is_compared (start_of ts) ≡ true → negation_of inner ts ≡ comparison_of inner ts
unfolding negation_of and_then
no_negation inner [] h = no h
no_negation inner (t ∷ rest) h = not_class inner (class_at t) t rest h

pub complete_no_not : {ts : List Placed} {e : Expr} → ((rest : List Placed) → is_compared (start_of (ts ++ rest)) ≡ true) → Complete comparison ts e → Complete negation ts e
complete_no_not {ts = ts} b d = record { reads = λ n h rest s. no_negation (parse n) (ts ++ rest) (b rest) ∙ d.reads n h rest s }

pub complete_not : (p : Place) {ts : List Placed} {e : Expr} → Complete comparison ts e → Complete negation (placed p (word_token WNot) ∷ ts) (tree.Not p e)
unfolding negation_of and_then
complete_not p d = record { reads = λ n h rest s. rw (d.reads n (omega arith) rest s) refl }

forall_class : (inner : Inner) (k : Class) (t : Placed) (rest : List Placed) → is_joined (start_at k rest) ≡ true → whole_at inner k t rest ≡ disjunction_of inner (t ∷ rest)
forall_class inner class.Forall t rest h = no h
forall_class inner _ t rest h = refl

no_for_all : (inner : Inner) (ts : List Placed) → is_joined (start_of ts) ≡ true → expression_of inner ts ≡ disjunction_of inner ts
unfolding expression_of and_then
no_for_all inner [] h = no h
no_for_all inner (t ∷ rest) h = forall_class inner (class_at t) t rest h

pub complete_no_forall : {ts : List Placed} {e : Expr} → ((rest : List Placed) → is_joined (start_of (ts ++ rest)) ≡ true) → Complete disjunction ts e → Complete whole ts e
complete_no_forall {ts = ts} b d = record { reads = λ n h rest s. no_for_all (parse n) (ts ++ rest) (b rest) ∙ d.reads n h rest s }

pub complete_forall : (p q : Place) (with_do : Bool) {ts us : List Placed} {index : Index} {e : Expr} → CompleteIndex ts index → Complete whole us e →
    Complete whole (placed p (word_token WForall) ∷ (ts ++ (placed q (separator_token with_do) ∷ us))) (tree.Forall p index with_do e)
unfolding expression_of and_then
complete_forall p q true {ts = ts} {us = us} d e = record {
  reads = λ n h rest s.
      rw (
        append_assoc ts (placed q (separator_token true) ∷ us) rest,
        d.indices n (omega (arith, length-append ts (placed q (separator_token true) ∷ us), h)) (placed q (separator_token true) ∷ (us ++ rest)) (omega arith) refl,
        deeper e n (omega (arith, length-append ts (placed q (separator_token true) ∷ us), h)) rest s,
      ) refl;
}
complete_forall p q false {ts = ts} {us = us} d e = record {
  reads = λ n h rest s.
      rw (
        append_assoc ts (placed q (separator_token false) ∷ us) rest,
        d.indices n (omega (arith, length-append ts (placed q (separator_token false) ∷ us), h)) (placed q (separator_token false) ∷ (us ++ rest)) (omega arith) refl,
        deeper e n (omega (arith, length-append ts (placed q (separator_token false) ∷ us), h)) rest s,
      ) refl;
}
