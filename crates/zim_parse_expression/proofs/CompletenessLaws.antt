-- What has a derivation is what the parser reads.
use Rattle.std.proofs.Common.{◌≡◌, true, List, ◌∷◌, ◌++◌, append_assoc}
use Rattle.zim_fault.specs.declared.tokens.Placed.{Placed}
use Rattle.zim_tree.specs.declared.expr.Expr.{Expr}
use Rattle.zim_tree.specs.declared.expr.Angle.{Angle}
use Rattle.zim_tree.specs.declared.expr.Index.{Index}
use Rattle.zim_tree.specs.declared.expr.Body.{Body}
use Rattle.zim_tree.specs.Levels.{Level, Chain, Operands}
use Rattle.zim_tree.specs.Grammar.{Reads, ReadsOperands, ReadsList, ReadsTuples, ReadsIndex, ReadsBody, a_number, a_text, a_truth, an_infinity, a_name, an_item, a_bare_call, a_call, a_function, a_projection, in_parentheses, in_braces, an_if, an_if_with_else, a_postfix, no_power, a_power, no_sign, a_sign, a_big, no_loop_sign, a_loop_sign, a_product, a_loop, a_product_with_loop, a_chain, a_member, no_not, a_not, no_forall, a_forall, no_operand, an_operand, the_last, one_more, a_tuple, the_last_tuple, one_more_tuple, an_index, an_index_with, nothing, the_members, the_tuples, the_choices, a_span, a_span_by}
use Rattle.zim_parse_expression.specs.Next.{start_of}
use Rattle.zim_parse_expression.proofs.BeginningLaws.{allowed, begins}
use Rattle.zim_parse_expression.proofs.PrimaryLaws.{Complete, CompleteList, CompleteIndex, CompleteBody, complete_last, complete_more, complete_number, complete_text, complete_truth, complete_infinity, complete_name, complete_item, complete_bare_call, complete_call, complete_function, complete_projection, complete_parentheses, complete_braces, complete_if, complete_if_with_else}
use Rattle.zim_parse_expression.proofs.BodySteps.{CompleteTuples, complete_index, complete_index_with, complete_nothing, complete_members, complete_last_tuple, complete_more_tuple, complete_tuples, complete_choices, complete_choices_with, complete_span, complete_span_by}
use Rattle.zim_parse_expression.proofs.LevelSteps.{complete_postfix, complete_no_power, complete_power, complete_no_sign, complete_sign, complete_big, complete_no_loop_sign, complete_loop_sign, complete_product, complete_loop, complete_product_with_loop}
use Rattle.zim_parse_expression.proofs.ChainSteps.{CompleteOperands, complete_no_operand, complete_operand, complete_chain, complete_member, complete_no_not, complete_not, complete_no_forall, complete_forall}

list_begins : {level : Level} {ts : List Placed} {items : List Expr} → ReadsList level ts items → (rest : List Placed) → allowed level (start_of (ts ++ rest)) ≡ true
list_begins (the_last d) rest = begins d rest
list_begins (one_more p {ts = ts} d e) rest = rw (append_assoc ts (_ ∷ _) rest) (begins d _)

mutual
  pub complete : {level : Level} {ts : List Placed} {e : Expr} → Reads level ts e → Complete level ts e
  complete (a_number p digits) = complete_number p digits
  complete (a_text p text double) = complete_text p text double
  complete (a_truth p truth) = complete_truth p truth
  complete (an_infinity p) = complete_infinity p
  complete (a_name p name) = complete_name p name
  complete (an_item p q r name d) = complete_item p q r name (complete_list d)
  complete (a_bare_call p q r name) = complete_bare_call p q r name
  complete (a_call p q r name d) = complete_call p q r name (list_begins d) (complete_list d)
  complete (a_function p q r w h d) = complete_function p q r w h (complete_list d)
  complete (a_projection p q r s d (a_tuple t u l)) = complete_projection p q r s t u (complete d) (complete_list l)
  complete (in_parentheses p q d) = complete_parentheses p q (complete d)
  complete (in_braces p q d) = complete_braces p q (complete_body d)
  complete (an_if p q r vif d e) = complete_if p q r vif (complete d) (complete e)
  complete (an_if_with_else p q r s vif d e f) = complete_if_with_else p q r s vif (complete d) (complete e) (complete f)
  complete (a_postfix marks d) = complete_postfix marks (complete d)
  complete (no_power d) = complete_no_power (complete d)
  complete (a_power p sign signed h d e) = complete_power p sign signed h (begins e) (complete d) (complete e)
  complete (no_sign d) = complete_no_sign (begins d) (complete d)
  complete (a_sign p minus d) = complete_sign p minus (complete d)
  complete (a_big p q w with_do h d e) = complete_big p q w with_do h (complete_index_of d) (complete e)
  complete (no_loop_sign d) = complete_no_loop_sign (begins d) (complete d)
  complete (a_loop_sign p minus d) = complete_loop_sign p minus (complete d)
  complete (a_product d) = complete_product (begins d) (complete d)
  complete (a_loop d) = complete_loop (begins d) (complete d)
  complete (a_product_with_loop p token h d e) = complete_product_with_loop p token h (begins d) (begins e) (complete d) (complete e)
  complete (a_chain chain h d e) = complete_chain chain h (begins d) (complete d) (complete_operands e)
  complete (a_member p (a_tuple q r l) e) = complete_member p q r (complete_list l) (complete e)
  complete (no_not d) = complete_no_not (begins d) (complete d)
  complete (a_not p d) = complete_not p (complete d)
  complete (no_forall d) = complete_no_forall (begins d) (complete d)
  complete (a_forall p q with_do d e) = complete_forall p q with_do (complete_index_of d) (complete e)

  complete_operands : {chain : Chain} {us : List Placed} {others : Operands} → ReadsOperands chain us others → CompleteOperands chain us others
  complete_operands (no_operand chain) = complete_no_operand chain
  complete_operands (an_operand chain p token h d e) = complete_operand chain p token h (begins d) (complete d) (complete_operands e)

  pub complete_list : {level : Level} {ts : List Placed} {items : List Expr} → ReadsList level ts items → CompleteList level ts items
  complete_list (the_last d) = complete_last (complete d)
  complete_list (one_more p d e) = complete_more p (complete d) (complete_list e)

  complete_tuples_of : {ts : List Placed} {tuples : List Angle} → ReadsTuples ts tuples → CompleteTuples ts tuples
  complete_tuples_of (the_last_tuple (a_tuple q r l)) = complete_last_tuple q r (complete_list l)
  complete_tuples_of (one_more_tuple p (a_tuple q r l) e) = complete_more_tuple p q r (complete_list l) (complete_tuples_of e)

  pub complete_index_of : {ts : List Placed} {index : Index} → ReadsIndex ts index → CompleteIndex ts index
  complete_index_of (an_index p (a_tuple q r l) e) = complete_index p q r (complete_list l) (complete e)
  complete_index_of (an_index_with p t bar (a_tuple q r l) e f) = complete_index_with p q r t bar (complete_list l) (complete e) (complete f)

  complete_body : {ts : List Placed} {inside : Body} → ReadsBody ts inside → CompleteBody ts inside
  complete_body nothing = complete_nothing
  complete_body (the_members d) = complete_members (list_begins d) (complete_list d)
  complete_body (the_tuples d) = complete_tuples (complete_tuples_of d)
  complete_body (the_choices (an_index p (a_tuple q r l) e)) = complete_choices p q r (complete_list l) (complete e)
  complete_body (the_choices (an_index_with p t bar (a_tuple q r l) e f)) = complete_choices_with p q r t bar (complete_list l) (complete e) (complete f)
  complete_body (a_span p with_to d e) = complete_span p with_to (begins d) (complete d) (complete e)
  complete_body (a_span_by p q with_to d e f) = complete_span_by p q with_to (begins d) (complete d) (complete e) (complete f)
