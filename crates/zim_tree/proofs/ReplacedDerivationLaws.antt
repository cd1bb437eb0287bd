-- A derivation with its places mapped by a function is a derivation of the tree with its places mapped by it.
use Rattle.std.proofs.Common.{◌≡◌, suc, Bool, List, [], ◌∷◌, ◌++◌, map, length, Option, Some, None, option_map, refl, ap}
use Rattle.std.proofs.lemmas.List.{map-append}
use Rattle.zim_fault.specs.declared.faults.Place.{Place}
use Rattle.zim_fault.specs.declared.tokens.Token.{Token}
use Rattle.zim_fault.specs.declared.tokens.Placed.{Placed}
use Rattle.zim_fault.specs.declared.tokens.Relation.{Relation}
use Rattle.zim_tree.specs.declared.expr.Expr.{Expr}
use Rattle.zim_tree.specs.declared.expr.Angle.{Angle}
use Rattle.zim_tree.specs.declared.expr.Index.{Index}
use Rattle.zim_tree.specs.declared.expr.Body.{Body}
use Rattle.zim_tree.specs.Levels.{Level, Chain, products, sums, relations, conjunctions, disjunctions, Limits, Operands, joined, compared, conjoined, disjoined, factorial, exclamations, exponent_sign}
use Rattle.zim_tree.specs.Grammar.{Reads, ReadsOperands, ReadsList, ReadsTuple, ReadsTuples, ReadsIndex, ReadsBody, a_number, a_text, a_truth, an_infinity, a_name, an_item, a_bare_call, a_call, a_function, a_projection, in_parentheses, in_braces, an_if, an_if_with_else, a_postfix, no_power, a_power, no_sign, a_sign, a_big, no_loop_sign, a_loop_sign, a_product, a_loop, a_product_with_loop, a_chain, a_member, no_not, a_not, no_forall, a_forall, no_operand, an_operand, the_last, one_more, a_tuple, the_last_tuple, one_more_tuple, an_index, an_index_with, nothing, the_members, the_tuples, the_choices, a_span, a_span_by}
use Rattle.zim_tree.specs.Plain.{replaced, replaced_angle, replaced_index, replaced_body, replaced_token, replaced_tokens}
use Rattle.zim_tree.proofs.ReplacedLaws.{replaced-angle, replaced-index, replaced-Number, replaced-Text, replaced-Truth, replaced-Infinity, replaced-Name, replaced-Item, replaced-Call, replaced-Func, replaced-Proj, replaced-Paren, replaced-Braces, replaced-If, replaced-Factorial, replaced-Power, replaced-Signed, replaced-Big, replaced-Times, replaced-Plus, replaced-Compare, replaced-Member, replaced-Not, replaced-And, replaced-Or, replaced-Forall, replaced-Empty, replaced-Members, replaced-Tuples, replaced-Those, replaced-Span}

pub tokens_append : (put : Place → Place) (ts us : List Placed) → replaced_tokens put (ts ++ us) ≡ replaced_tokens put ts ++ replaced_tokens put us
tokens_append put = map-append (replaced_token put)

-- operators and operands with their places mapped
abbrev replaced_operands : (Place → Place) → Operands → Operands
replaced_operands put = map (λ (x : Place × Token × Expr). (put x.0, x.1, replaced put x.2))

marks-replaced : (put : Place → Place) (marks : List Place) → replaced_tokens put (exclamations marks) ≡ exclamations (map put marks)
marks-replaced put [] = refl
marks-replaced put (p ∷ marks) = rw (marks-replaced put marks) refl

factorial-replaced : (put : Place → Place) (e : Expr) (marks : List Place) → replaced put (factorial e marks) ≡ factorial (replaced put e) (map put marks)
factorial-replaced put e [] = refl
factorial-replaced put e (p ∷ marks) = replaced-Factorial put e (p ∷ marks)

exponent-replaced : (put : Place → Place) (signed : Option (Place × Bool)) → replaced_tokens put (exponent_sign signed) ≡ exponent_sign (option_map (λ (x : Place × Bool). (put x.0, x.1)) signed)
exponent-replaced put None = refl
exponent-replaced put (Some x) = refl

compared-replaced : (put : Place → Place) (others : Operands) → map (λ (x : Place × Relation × Expr). (put x.0, x.1, replaced put x.2)) (compared others) ≡ compared (replaced_operands put others)
compared-replaced put [] = refl
compared-replaced put (x ∷ others) = rw (compared-replaced put others) refl

conjoined-replaced : (put : Place → Place) (others : Operands) → map (λ (x : Place × Expr). (put x.0, replaced put x.1)) (conjoined others) ≡ conjoined (replaced_operands put others)
conjoined-replaced put [] = refl
conjoined-replaced put (x ∷ others) = rw (conjoined-replaced put others) refl

disjoined-replaced : (put : Place → Place) (others : Operands) → map (λ (x : Place × Bool × Expr). (put x.0, x.1, replaced put x.2)) (disjoined others) ≡ disjoined (replaced_operands put others)
disjoined-replaced put [] = refl
disjoined-replaced put (x ∷ others) = rw (disjoined-replaced put others) refl

joined-replaced : (put : Place → Place) (chain : Chain) (first : Expr) (others : Operands) → replaced put (joined chain first others) ≡ joined chain (replaced put first) (replaced_operands put others)
joined-replaced put chain first [] = refl
joined-replaced put products first (x ∷ others) = replaced-Times put first (x ∷ others)
joined-replaced put sums first (x ∷ others) = replaced-Plus put first (x ∷ others)
joined-replaced put relations first (x ∷ others) = rw (replaced-Compare put first (compared (x ∷ others)), compared-replaced put others) refl
joined-replaced put conjunctions first (x ∷ others) = rw (replaced-And put first (conjoined (x ∷ others)), conjoined-replaced put others) refl
joined-replaced put disjunctions first (x ∷ others) = rw (replaced-Or put first (disjoined (x ∷ others)), disjoined-replaced put others) refl

length-replaced : (put : Place → Place) (others : Operands) → length (replaced_operands put others) ≡ length others
length-replaced put [] = refl
length-replaced put (x ∷ others) = ap suc (length-replaced put others)

limits_replaced : (put : Place → Place) (chain : Chain) (others : Operands) → Limits chain (length others) → Limits chain (length (replaced_operands put others))
limits_replaced put chain others h = rw (length-replaced put others) h

mutual
  pub reads_replaced : (put : Place → Place) {level : Level} {ts : List Placed} {e : Expr} → Reads level ts e → Reads level (replaced_tokens put ts) (replaced put e)
  reads_replaced put (a_number p digits) = rw (replaced-Number put p digits) (a_number (put p) digits)
  reads_replaced put (a_text p text double) = rw (replaced-Text put p text double) (a_text (put p) text double)
  reads_replaced put (a_truth p truth) = rw (replaced-Truth put p truth) (a_truth (put p) truth)
  reads_replaced put (an_infinity p) = rw (replaced-Infinity put p) (an_infinity (put p))
  reads_replaced put (a_name p name) = rw (replaced-Name put p name) (a_name (put p) name)
  reads_replaced put (an_item p q r name {ts = ts} {index = index} d) = rw (replaced-Item put p name index, tokens_append put) (an_item (put p) (put q) (put r) name (list_replaced put d))
  reads_replaced put (a_bare_call p q r name) = rw (replaced-Call put p name []) (a_bare_call (put p) (put q) (put r) name)
  reads_replaced put (a_call p q r name {given = given} d) = rw (replaced-Call put p name given, tokens_append put) (a_call (put p) (put q) (put r) name (list_replaced put d))
  reads_replaced put (a_function p q r w {given = given} h d) = rw (replaced-Func put p w given, tokens_append put) (a_function (put p) (put q) (put r) w h (list_replaced put d))
  reads_replaced put (a_projection p q r s {set = set} {positions = positions} d e) = rw (replaced-Proj put p set positions) (simp (tokens_append put) (a_projection (put p) (put q) (put r) (put s) (reads_replaced put d) (tuple_replaced put e)))
  reads_replaced put (in_parentheses p q {inner = inner} d) = rw (replaced-Paren put p inner, tokens_append put) (in_parentheses (put p) (put q) (reads_replaced put d))
  reads_replaced put (in_braces p q {inside = inside} d) = rw (replaced-Braces put p inside, tokens_append put) (in_braces (put p) (put q) (body_replaced put d))
  reads_replaced put (an_if p q r vif {test = test} {branch = branch} d e) = rw (replaced-If put p vif test branch None) (simp (tokens_append put) (an_if (put p) (put q) (put r) vif (reads_replaced put d) (reads_replaced put e)))
  reads_replaced put (an_if_with_else p q r s vif {test = test} {branch = branch} {otherwise = otherwise} d e f) =
      rw (replaced-If put p vif test branch (Some otherwise)) (simp (tokens_append put) (an_if_with_else (put p) (put q) (put r) (put s) vif (reads_replaced put d) (reads_replaced put e) (reads_replaced put f)))
  reads_replaced put (a_postfix marks {operand = operand} d) = rw (factorial-replaced put operand marks, tokens_append put, marks-replaced put) (a_postfix (map put marks) (reads_replaced put d))
  reads_replaced put (no_power d) = no_power (reads_replaced put d)
  reads_replaced put (a_power p sign signed {base = base} {exponent = exponent} h d e) =
      rw (replaced-Power put p sign base signed exponent) (simp (tokens_append put, exponent-replaced put) (a_power (put p) sign (option_map (λ (x : Place × Bool). (put x.0, x.1)) signed) h (reads_replaced put d) (reads_replaced put e)))
  reads_replaced put (no_sign d) = no_sign (reads_replaced put d)
  reads_replaced put (a_sign p minus {operand = operand} d) = rw (replaced-Signed put p minus operand) (a_sign (put p) minus (reads_replaced put d))
  reads_replaced put (a_big p q w with_do {index = index} {operand = operand} h d e) = rw (replaced-Big put p w index with_do operand, tokens_append put) (a_big (put p) (put q) w with_do h (index_replaced put d) (reads_replaced put e))
  reads_replaced put (no_loop_sign d) = no_loop_sign (reads_replaced put d)
  reads_replaced put (a_loop_sign p minus {operand = operand} d) = rw (replaced-Signed put p minus operand) (a_loop_sign (put p) minus (reads_replaced put d))
  reads_replaced put (a_product d) = a_product (reads_replaced put d)
  reads_replaced put (a_loop d) = a_loop (reads_replaced put d)
  reads_replaced put (a_product_with_loop p token {first = first} {last = last} h d e) = rw (replaced-Times put first ((p, token, last) ∷ []), tokens_append put) (a_product_with_loop (put p) token h (reads_replaced put d) (reads_replaced put e))
  reads_replaced put (a_chain chain {first = first} {others = others} h d e) =
      rw (joined-replaced put chain first others, tokens_append put) (a_chain chain (limits_replaced put chain others h) (reads_replaced put d) (operands_replaced put e))
  reads_replaced put (a_member p {tuple = tuple} {set = set} d e) = rw (replaced-Member put p tuple set, tokens_append put) (a_member (put p) (tuple_replaced put d) (reads_replaced put e))
  reads_replaced put (no_not d) = no_not (reads_replaced put d)
  reads_replaced put (a_not p {operand = operand} d) = rw (replaced-Not put p operand) (a_not (put p) (reads_replaced put d))
  reads_replaced put (no_forall d) = no_forall (reads_replaced put d)
  reads_replaced put (a_forall p q with_do {index = index} {inside = inside} d e) = rw (replaced-Forall put p index with_do inside, tokens_append put) (a_forall (put p) (put q) with_do (index_replaced put d) (reads_replaced put e))

  operands_replaced : (put : Place → Place) {chain : Chain} {us : List Placed} {others : Operands} → ReadsOperands chain us others → ReadsOperands chain (replaced_tokens put us) (replaced_operands put others)
  operands_replaced put (no_operand chain) = no_operand chain
  operands_replaced put (an_operand chain p token h d e) = rw (tokens_append put) (an_operand chain (put p) token h (reads_replaced put d) (operands_replaced put e))

  pub list_replaced : (put : Place → Place) {level : Level} {ts : List Placed} {items : List Expr} → ReadsList level ts items → ReadsList level (replaced_tokens put ts) (map (replaced put) items)
  list_replaced put (the_last d) = the_last (reads_replaced put d)
  list_replaced put (one_more p d e) = rw (tokens_append put) (one_more (put p) (reads_replaced put d) (list_replaced put e))

  pub tuple_replaced : (put : Place → Place) {ts : List Placed} {tuple : Angle} → ReadsTuple ts tuple → ReadsTuple (replaced_tokens put ts) (replaced_angle put tuple)
  tuple_replaced put (a_tuple p q {items = items} d) = rw (replaced-angle put p items, tokens_append put) (a_tuple (put p) (put q) (list_replaced put d))

  tuples_replaced : (put : Place → Place) {ts : List Placed} {tuples : List Angle} → ReadsTuples ts tuples → ReadsTuples (replaced_tokens put ts) (map (replaced_angle put) tuples)
  tuples_replaced put (the_last_tuple d) = the_last_tuple (tuple_replaced put d)
  tuples_replaced put (one_more_tuple p d e) = rw (tokens_append put) (one_more_tuple (put p) (tuple_replaced put d) (tuples_replaced put e))

  pub index_replaced : (put : Place → Place) {ts : List Placed} {index : Index} → ReadsIndex ts index → ReadsIndex (replaced_tokens put ts) (replaced_index put index)
  index_replaced put (an_index p {tuple = tuple} {set = set} d e) = rw (replaced-index put p tuple set None, tokens_append put) (an_index (put p) (tuple_replaced put d) (reads_replaced put e))
  index_replaced put (an_index_with p q bar {tuple = tuple} {set = set} {cond = cond} d e f) =
      rw (replaced-index put p tuple set (Some (bar, cond))) (simp (tokens_append put) (an_index_with (put p) (put q) bar (tuple_replaced put d) (reads_replaced put e) (reads_replaced put f)))

  body_replaced : (put : Place → Place) {ts : List Placed} {inside : Body} → ReadsBody ts inside → ReadsBody (replaced_tokens put ts) (replaced_body put inside)
  body_replaced put nothing = rw (replaced-Empty put) nothing
  body_replaced put (the_members {members = members} d) = rw (replaced-Members put members) (the_members (list_replaced put d))
  body_replaced put (the_tuples {tuples = tuples} d) = rw (replaced-Tuples put tuples) (the_tuples (tuples_replaced put d))
  body_replaced put (the_choices {index = index} d) = rw (replaced-Those put index) (the_choices (index_replaced put d))
  body_replaced put (a_span p with_to {from = from} {to = to} d e) = rw (replaced-Span put from with_to to None, tokens_append put) (a_span (put p) with_to (reads_replaced put d) (reads_replaced put e))
  body_replaced put (a_span_by p q with_to {from = from} {to = to} {by = by} d e f) =
      rw (replaced-Span put from with_to to (Some by)) (simp (tokens_append put) (a_span_by (put p) (put q) with_to (reads_replaced put d) (reads_replaced put e) (reads_replaced put f)))
