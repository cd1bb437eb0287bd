-- The tokens of a derivation nest as its tree.
use Rattle.std.proofs.Common.{◌≡◌, Bool, true, false, List, [], ◌∷◌, ◌++◌, map, Option, Some, None, refl, sym, append-nil, append_assoc}
use Rattle.zim_fault.specs.declared.faults.Place.{Place}
use Rattle.zim_fault.specs.declared.tokens.Token.{Token}
use Rattle.zim_fault.specs.declared.tokens.Token.TheVariants.{Word as word_token, Sign as sign_token}
use Rattle.zim_fault.specs.declared.tokens.Placed.{Placed}
use Rattle.zim_fault.specs.declared.signs.Sign.TheVariants.{SComma, SGreater}
use Rattle.zim_fault.specs.declared.words.Word.TheVariants.{WThen, WElse}
use Rattle.zim_tree.specs.declared.expr.Expr.{Expr}
use Rattle.zim_tree.specs.declared.expr.Angle.{Angle}
use Rattle.zim_tree.specs.declared.expr.Index.{Index}
use Rattle.zim_tree.specs.declared.expr.Body.{Body}
use Rattle.zim_tree.specs.declared.classes.Class.{Class}
use Rattle.zim_tree.specs.declared.classes.Class.TheVariants as class
use Rattle.zim_tree.specs.Classes.{token_class, sign_class}
use Rattle.zim_tree.specs.Levels.{Level, Chain, Operands, placed, exclamations, exponent_sign, separator_token, condition_token, span_token, truth_token, if_token, sign_token_of}
use Rattle.zim_tree.specs.Grammar.{Reads, ReadsOperands, ReadsList, ReadsTuple, ReadsTuples, ReadsIndex, ReadsBody, a_number, a_text, a_truth, an_infinity, a_name, an_item, a_bare_call, a_call, a_function, a_projection, in_parentheses, in_braces, an_if, an_if_with_else, a_postfix, no_power, a_power, no_sign, a_sign, a_big, no_loop_sign, a_loop_sign, a_product, a_loop, a_product_with_loop, a_chain, a_member, no_not, a_not, no_forall, a_forall, no_operand, an_operand, the_last, one_more, a_tuple, the_last_tuple, one_more_tuple, an_index, an_index_with, nothing, the_members, the_tuples, the_choices, a_span, a_span_by}
use Rattle.zim_scan.specs.Nesting.{begins_paren}
use Rattle.zim_nesting.specs.Depth as spec
use Rattle.zim_nesting.specs.Depth.{Depth, ◌followed_by◌, followed, depth, angle_depth, index_depth, body_depth}
use Rattle.zim_nesting.proofs.PieceLemmas.{Nests, opens, is_plain, plain-then, then-plain, as_tokens, as_depth, nothing_nests, loop_before, join, in_brackets, in_brackets_two, in_brackets_three, plain_before, one_plain, plain_behind, joins_plain, function_before, big_before}
use Rattle.zim_nesting.proofs.DepthLaws.{depth-angle, depth-index, depth-Number, depth-Text, depth-Truth, depth-Infinity, depth-Name, depth-Item, depth-Call, depth-Func, depth-Proj, depth-Paren, depth-Braces, depth-If, depth-Power, depth-Signed, depth-Big, depth-Times, depth-Member, depth-Not, depth-Forall, depth-Empty, depth-Members, depth-Tuples, depth-Those, depth-Span, depth-joined, depth-factorial}

-- the tokens nest as what the tree is known to
pub by : {ts : List Placed} {d e : Depth} → d ≡ e → Nests ts e → Nests ts d
by e h = as_depth h (sym e)

-- one member more of pieces that follow each other
pub one_on : (us ts vs : List Placed) {e : Depth} → Nests ((us ++ ts) ++ vs) e → Nests (us ++ (ts ++ vs)) e
one_on us ts vs h = as_tokens h (append_assoc us ts vs)

truth-plain : (b : Bool) → is_plain (token_class (truth_token b)) ≡ true
truth-plain true = refl
truth-plain false = refl

if-opens : (b : Bool) → opens (token_class (if_token b)) ≡ true
if-opens true = refl
if-opens false = refl

sign-plain : (b : Bool) → is_plain (token_class (sign_token_of b)) ≡ true
sign-plain true = refl
sign-plain false = refl

pub separator-plain : (b : Bool) → is_plain (token_class (separator_token b)) ≡ true
separator-plain true = refl
separator-plain false = refl

condition-plain : (b : Bool) → is_plain (token_class (condition_token b)) ≡ true
condition-plain true = refl
condition-plain false = refl

span-plain : (b : Bool) → is_plain (token_class (span_token b)) ≡ true
span-plain true = refl
span-plain false = refl

power-plain : (c : Class) → c ≡ class.Power → is_plain c ≡ true
power-plain c e = rw e refl

product-plain : (c : Class) → c ≡ class.Product → is_plain c ≡ true
product-plain c e = rw e refl

marks-nest : (places : List Place) → Nests (exclamations places) spec.no_nesting
marks-nest [] = nothing_nests
marks-nest (p ∷ places) = plain_before refl (marks-nest places)

exponent-nests : (signed : Option (Place × Bool)) → Nests (exponent_sign signed) spec.no_nesting
exponent-nests None = nothing_nests
exponent-nests (Some sign) = one_plain (sign-plain sign.1)

-- what follows the word of a loop is no `(`
index_begins : {ts : List Placed} {index : Index} → ReadsIndex ts index → (rest : List Placed) → begins_paren (ts ++ rest) ≡ false
index_begins (an_index p (a_tuple q r d) e) rest = refl
index_begins (an_index_with p q bar (a_tuple r s d) e f) rest = refl

-- a piece and others that add nothing
pub with_plain : {ts us : List Placed} {d : Depth} → Nests ts d → Nests us spec.no_nesting → Nests (ts ++ us) d
with_plain {ts} {us} {d} g h = as_depth (join g h) (then-plain d g.within)

-- a part that isn't there adds nothing
pub with_nothing : {ts : List Placed} {d : Depth} → Nests ts d → Nests ts (d followed_by spec.no_nesting)
with_nothing {ts} {d} g = as_depth g (sym (then-plain d g.within))

-- what begins with no `(` begins with none where more follows
before_paren : (ts us : List Placed) → ((rest : List Placed) → begins_paren (ts ++ rest) ≡ false) → (rest : List Placed) → begins_paren ((ts ++ us) ++ rest) ≡ false
before_paren ts us h rest = rw (append_assoc ts us rest) (h (us ++ rest))

-- a member, a comma and the members behind it
pub comma_on : (us ts vs : List Placed) (t : Placed) {e : Depth} → Nests ((us ++ (ts ++ t ∷ [])) ++ vs) e → Nests (us ++ (ts ++ t ∷ vs)) e
comma_on us ts vs t h = as_tokens h (simp append_assoc refl)

mutual
  pub reads-nest : {level : Level} {ts : List Placed} {e : Expr} → Reads level ts e → Nests ts (depth e)
  reads-nest (a_number p digits) = by (depth-Number p digits) (one_plain refl)
  reads-nest (a_text p text double) = by (depth-Text p text double) (one_plain refl)
  reads-nest (a_truth p truth) = by (depth-Truth p truth) (one_plain (truth-plain truth))
  reads-nest (an_infinity p) = by (depth-Infinity p) (one_plain refl)
  reads-nest (a_name p name) = by (depth-Name p name) (one_plain refl)
  reads-nest (an_item p q r name d) = by (depth-Item p name _) (plain_before refl (in_brackets _ refl refl (list-nests d nothing_nests)))
  reads-nest (a_bare_call p q r name) = by (depth-Call p name []) (plain_before refl (in_brackets _ refl refl nothing_nests))
  reads-nest (a_call p q r name d) = by (depth-Call p name _) (plain_before refl (in_brackets _ refl refl (list-nests d nothing_nests)))
  reads-nest (a_function p q r word h d) = by (depth-Func p word _) (function_before h (λ rest. refl) (in_brackets _ refl refl (list-nests d nothing_nests)))
  reads-nest (a_projection p q r s {ts = ts} {us = us} d e) = by (depth-Proj p _ _)
      (plain_before refl (in_brackets_two _ (placed r (sign_token SComma)) ts us refl refl (join (reads-nest d) (plain_before refl (tuple-nests e)))))
  reads-nest (in_parentheses p q d) = by (depth-Paren p _) (in_brackets _ refl refl (reads-nest d))
  reads-nest (in_braces p q d) = by (depth-Braces p _) (in_brackets _ refl refl (body-nests d))
  reads-nest (an_if p q r vif {ts = ts} {us = us} d e) = by (depth-If p vif _ _ None)
      (in_brackets_two _ (placed q (word_token WThen)) ts us (if-opens vif) refl (join (reads-nest d) (plain_before refl (with_nothing (reads-nest e)))))
  reads-nest (an_if_with_else p q r s vif {ts = ts} {us = us} {vs = vs} d e f) = by (depth-If p vif _ _ (Some _))
      (in_brackets_three _ (placed q (word_token WThen)) (placed r (word_token WElse)) ts us vs (if-opens vif) refl
      (join (reads-nest d) (plain_before refl (join (reads-nest e) (plain_before refl (reads-nest f))))))
  reads-nest (a_postfix marks d) = by (depth-factorial _ marks) (with_plain (reads-nest d) (marks-nest marks))
  reads-nest (no_power d) = reads-nest d
  reads-nest (a_power p sign signed h d e) = by (depth-Power p sign _ signed _)
      (join (reads-nest d) (plain_before (power-plain (sign_class sign) h) (as_depth (join (exponent-nests signed) (reads-nest e)) (plain-then _))))
  reads-nest (no_sign d) = reads-nest d
  reads-nest (a_sign p minus d) = by (depth-Signed p minus _) (plain_before (sign-plain minus) (reads-nest d))
  reads-nest (a_big p q word with_do h d e) = by (depth-Big p word _ with_do _)
      (big_before h (before_paren _ _ (index_begins d)) (join (index-nests d) (plain_before (separator-plain with_do) (reads-nest e))))
  reads-nest (no_loop_sign d) = reads-nest d
  reads-nest (a_loop_sign p minus d) = by (depth-Signed p minus _) (plain_before (sign-plain minus) (reads-nest d))
  reads-nest (a_product d) = reads-nest d
  reads-nest (a_loop d) = reads-nest d
  reads-nest (a_product_with_loop p token h d e) = by (depth-Times _ _) (join (reads-nest d) (plain_before (product-plain (token_class token) h) (reads-nest e)))
  reads-nest (a_chain chain {first = first} {others = others} h d e) = by (depth-joined chain first others) (operands-nest e (reads-nest d))
  reads-nest (a_member p d e) = by (depth-Member p _ _) (join (tuple-nests d) (plain_before refl (reads-nest e)))
  reads-nest (no_not d) = reads-nest d
  reads-nest (a_not p d) = by (depth-Not p _) (plain_before refl (reads-nest d))
  reads-nest (no_forall d) = reads-nest d
  reads-nest (a_forall p q with_do d e) = by (depth-Forall p _ with_do _)
      (loop_before (λ o. refl) (λ rest l. refl) (join (index-nests d) (plain_before (separator-plain with_do) (reads-nest e))))

  -- behind a first operand
  pub operands-nest : {chain : Chain} {us ts : List Placed} {others : Operands} {d : Depth} → ReadsOperands chain ts others → Nests us d →
      Nests (us ++ ts) (followed d (map (λ (x : Place × Token × Expr). depth x.2) others))
  operands-nest {us = us} (no_operand chain) g = as_tokens g (sym (append-nil us))
  operands-nest {us = us} (an_operand chain p token {ts = ts} h d e) g = one_on us (placed p token ∷ ts) _ (operands-nest e (join g (plain_before (joins_plain chain (token_class token) h) (reads-nest d))))

  -- behind what stands before the first
  pub list-nests : {level : Level} {us ts : List Placed} {items : List Expr} {d : Depth} → ReadsList level ts items → Nests us d → Nests (us ++ ts) (followed d (map depth items))
  list-nests (the_last d) g = join g (reads-nest d)
  list-nests {us = us} (one_more p {ts = ts} d e) g = comma_on us ts _ (placed p (sign_token SComma)) (list-nests e (join g (plain_behind (placed p (sign_token SComma)) refl (reads-nest d))))

  pub tuple-nests : {ts : List Placed} {tuple : Angle} → ReadsTuple ts tuple → Nests ts (angle_depth tuple)
  tuple-nests (a_tuple p q d) = by (depth-angle p _) (plain_before refl (plain_behind (placed q (sign_token SGreater)) refl (list-nests d nothing_nests)))

  pub tuples-nest : {us ts : List Placed} {tuples : List Angle} {d : Depth} → ReadsTuples ts tuples → Nests us d → Nests (us ++ ts) (followed d (map angle_depth tuples))
  tuples-nest (the_last_tuple d) g = join g (tuple-nests d)
  tuples-nest {us = us} (one_more_tuple p {ts = ts} d e) g = comma_on us ts _ (placed p (sign_token SComma)) (tuples-nest e (join g (plain_behind (placed p (sign_token SComma)) refl (tuple-nests d))))

  pub index-nests : {ts : List Placed} {index : Index} → ReadsIndex ts index → Nests ts (index_depth index)
  index-nests (an_index p d e) = by (depth-index p _ _ None) (join (tuple-nests d) (plain_before refl (with_nothing (reads-nest e))))
  index-nests (an_index_with p q bar d e f) = by (depth-index p _ _ (Some (bar, _)))
      (join (tuple-nests d) (plain_before refl (join (reads-nest e) (plain_before (condition-plain bar) (reads-nest f)))))

  pub body-nests : {ts : List Placed} {inside : Body} → ReadsBody ts inside → Nests ts (body_depth inside)
  body-nests nothing = by depth-Empty nothing_nests
  body-nests (the_members d) = by (depth-Members _) (list-nests d nothing_nests)
  body-nests (the_tuples d) = by (depth-Tuples _) (tuples-nest d nothing_nests)
  body-nests (the_choices d) = by (depth-Those _) (index-nests d)
  body-nests (a_span p with_to d e) = by (depth-Span _ with_to _ None) (join (reads-nest d) (plain_before (span-plain with_to) (with_nothing (reads-nest e))))
  body-nests (a_span_by p q with_to d e f) = by (depth-Span _ with_to _ (Some _))
      (join (reads-nest d) (plain_before (span-plain with_to) (join (reads-nest e) (plain_before refl (reads-nest f)))))
