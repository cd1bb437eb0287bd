-- A tree that has a derivation is made of its parts.
use Rattle.std.proofs.Common.{List, [], ◌∷◌, length, arith, ap}
use Rattle.zim_fault.specs.declared.faults.Place.{Place}
use Rattle.zim_fault.specs.declared.tokens.Placed.{Placed}
use Rattle.zim_tree.specs.declared.expr.Expr.{Expr}
use Rattle.zim_tree.specs.declared.expr.Angle.{Angle}
use Rattle.zim_tree.specs.declared.expr.Index.{Index}
use Rattle.zim_tree.specs.declared.expr.Body.{Body}
use Rattle.zim_tree.specs.Levels.{Level, Chain, products, sums, relations, conjunctions, disjunctions, Limits, Operands, joined, conjoined, disjoined, joins, factorial, relation_of, is_xor}
use Rattle.zim_tree.specs.Grammar.{Reads, ReadsOperands, ReadsList, ReadsTuple, ReadsTuples, ReadsIndex, ReadsBody, a_number, a_text, a_truth, an_infinity, a_name, an_item, a_bare_call, a_call, a_function, a_projection, in_parentheses, in_braces, an_if, an_if_with_else, a_postfix, no_power, a_power, no_sign, a_sign, a_big, no_loop_sign, a_loop_sign, a_product, a_loop, a_product_with_loop, a_chain, a_member, no_not, a_not, no_forall, a_forall, no_operand, an_operand, the_last, one_more, a_tuple, the_last_tuple, one_more_tuple, an_index, an_index_with, nothing, the_members, the_tuples, the_choices, a_span, a_span_by}
use Rattle.zim_tree.specs.Made.{Made, MadeAll, MadeOperands, MadeConjuncts, MadeDisjuncts, MadeTuple, MadeTuples, MadeIndex, MadeBody, made_number, made_text, made_truth, made_infinity, made_name, made_item, made_call, made_function, made_projection, made_parentheses, made_braces, made_if, made_if_with_else, made_factorial, made_power, made_signed, made_big, made_product, made_sum, made_comparison, made_double_comparison, made_member, made_not, made_and, made_or, made_forall, made_none, made_one, made_no_operand, made_one_operand, made_no_conjunct, made_one_conjunct, made_no_disjunct, made_one_disjunct, made_tuple, made_no_tuple, made_one_tuple, made_index, made_index_with, made_empty, made_members, made_tuples, made_choices, made_span, made_span_by}

-- an operand with `!` behind it, or alone
factorial-made : (marks : List Place) {operand : Expr} → Made operand → Made (factorial operand marks)
factorial-made [] m = m
factorial-made (mark ∷ marks) m = made_factorial mark marks m

conjuncts-made : {others : Operands} → MadeOperands conjunctions others → MadeConjuncts (conjoined others)
conjuncts-made made_no_operand = made_no_conjunct
conjuncts-made (made_one_operand p token h m ms) = made_one_conjunct p m (conjuncts-made ms)

disjuncts-made : {others : Operands} → MadeOperands disjunctions others → MadeDisjuncts (disjoined others)
disjuncts-made made_no_operand = made_no_disjunct
disjuncts-made (made_one_operand p token h m ms) = made_one_disjunct p (is_xor token) m (disjuncts-made ms)

-- a first operand with further ones behind it, or alone
joined-made : (chain : Chain) {first : Expr} {others : Operands} → Limits chain (length others) → Made first → MadeOperands chain others →
    Made (joined chain first others)
joined-made chain h m made_no_operand = m
joined-made products h m (made_one_operand p token i n ns) = made_product m (made_one_operand p token i n ns)
joined-made sums h m (made_one_operand p token i n ns) = made_sum m (made_one_operand p token i n ns)
joined-made relations h m (made_one_operand p token i n made_no_operand) = made_comparison p (relation_of token) m n
joined-made relations h m (made_one_operand p token i n (made_one_operand q other j o made_no_operand)) =
    made_double_comparison p q (relation_of token) (relation_of other) m n o
joined-made relations h m (made_one_operand p token i n (made_one_operand q other j o (made_one_operand r another k l ls))) =
    let third : ⊥ = omega arith in absurd third
joined-made conjunctions h m (made_one_operand p token i n ns) = made_and m (conjuncts-made (made_one_operand p token i n ns))
joined-made disjunctions h m (made_one_operand p token i n ns) = made_or m (disjuncts-made (made_one_operand p token i n ns))

mutual
  -- the tree of a derivation is made of its parts
  pub reads-made : {level : Level} {ts : List Placed} {e : Expr} → Reads level ts e → Made e
  reads-made (a_number p digits) = made_number p digits
  reads-made (a_text p text double) = made_text p text double
  reads-made (a_truth p truth) = made_truth p truth
  reads-made (an_infinity p) = made_infinity p
  reads-made (a_name p name) = made_name p name
  reads-made (an_item p q r name (the_last d)) = made_item p name (made_one (reads-made d) made_none)
  reads-made (an_item p q r name (one_more s d e)) = made_item p name (made_one (reads-made d) (list-made e))
  reads-made (a_bare_call p q r name) = made_call p name made_none
  reads-made (a_call p q r name d) = made_call p name (list-made d)
  reads-made (a_function p q r word h (the_last d)) = made_function p word h (made_one (reads-made d) made_none)
  reads-made (a_function p q r word h (one_more s d e)) = made_function p word h (made_one (reads-made d) (list-made e))
  reads-made (a_projection p q r s d e) = made_projection p (reads-made d) (tuple-made e)
  reads-made (in_parentheses p q d) = made_parentheses p (reads-made d)
  reads-made (in_braces p q d) = made_braces p (body-made d)
  reads-made (an_if p q r vif d e) = made_if p vif (reads-made d) (reads-made e)
  reads-made (an_if_with_else p q r s vif d e f) = made_if_with_else p vif (reads-made d) (reads-made e) (reads-made f)
  reads-made (a_postfix marks d) = factorial-made marks (reads-made d)
  reads-made (no_power d) = reads-made d
  reads-made (a_power p sign signed h d e) = made_power p sign signed h (reads-made d) (reads-made e)
  reads-made (no_sign d) = reads-made d
  reads-made (a_sign p minus d) = made_signed p minus (reads-made d)
  reads-made (a_big p q word with_do h d e) = made_big p word with_do h (index-made d) (reads-made e)
  reads-made (no_loop_sign d) = reads-made d
  reads-made (a_loop_sign p minus d) = made_signed p minus (reads-made d)
  reads-made (a_product d) = reads-made d
  reads-made (a_loop d) = reads-made d
  reads-made (a_product_with_loop p token h d e) =
      made_product (reads-made d) (made_one_operand p token (ap (joins products) h) (reads-made e) made_no_operand)
  reads-made (a_chain chain h d e) = joined-made chain h (reads-made d) (operands-made e)
  reads-made (a_member p d e) = made_member p (tuple-made d) (reads-made e)
  reads-made (no_not d) = reads-made d
  reads-made (a_not p d) = made_not p (reads-made d)
  reads-made (no_forall d) = reads-made d
  reads-made (a_forall p q with_do d e) = made_forall p with_do (index-made d) (reads-made e)

  pub operands-made : {chain : Chain} {ts : List Placed} {others : Operands} → ReadsOperands chain ts others → MadeOperands chain others
  operands-made (no_operand chain) = made_no_operand
  operands-made (an_operand chain p token h d e) = made_one_operand p token h (reads-made d) (operands-made e)

  pub list-made : {level : Level} {ts : List Placed} {items : List Expr} → ReadsList level ts items → MadeAll items
  list-made (the_last d) = made_one (reads-made d) made_none
  list-made (one_more p d e) = made_one (reads-made d) (list-made e)

  pub tuple-made : {ts : List Placed} {tuple : Angle} → ReadsTuple ts tuple → MadeTuple tuple
  tuple-made (a_tuple p q (the_last d)) = made_tuple p (made_one (reads-made d) made_none)
  tuple-made (a_tuple p q (one_more r d e)) = made_tuple p (made_one (reads-made d) (list-made e))

  pub tuples-made : {ts : List Placed} {tuples : List Angle} → ReadsTuples ts tuples → MadeTuples tuples
  tuples-made (the_last_tuple d) = made_one_tuple (tuple-made d) made_no_tuple
  tuples-made (one_more_tuple p d e) = made_one_tuple (tuple-made d) (tuples-made e)

  pub index-made : {ts : List Placed} {index : Index} → ReadsIndex ts index → MadeIndex index
  index-made (an_index p d e) = made_index p (tuple-made d) (reads-made e)
  index-made (an_index_with p q bar d e f) = made_index_with p bar (tuple-made d) (reads-made e) (reads-made f)

  pub body-made : {ts : List Placed} {inside : Body} → ReadsBody ts inside → MadeBody inside
  body-made nothing = made_empty
  body-made (the_members (the_last d)) = made_members (made_one (reads-made d) made_none)
  body-made (the_members (one_more p d e)) = made_members (made_one (reads-made d) (list-made e))
  body-made (the_tuples (the_last_tuple d)) = made_tuples (made_one_tuple (tuple-made d) made_no_tuple)
  body-made (the_tuples (one_more_tuple p d e)) = made_tuples (made_one_tuple (tuple-made d) (tuples-made e))
  body-made (the_choices d) = made_choices (index-made d)
  body-made (a_span p with_to d e) = made_span with_to (reads-made d) (reads-made e)
  body-made (a_span_by p q with_to d e f) = made_span_by with_to (reads-made d) (reads-made e) (reads-made f)
