-- No member that a loop has come past has variables.
use Rattle.std.proofs.Common.{Bool}
use Rattle.std.specs.List.{list_any}
use Rattle.zim_fault.specs.declared.faults.Place.{Place}
use Rattle.zim_fault.specs.declared.tokens.Token.{Token}
use Rattle.zim_fault.specs.declared.tokens.Relation.{Relation}
use Rattle.zim_tree.specs.declared.expr.Expr.{Expr}
use Rattle.zim_typed.specs.Variables.{has_variables, tuple_has_variables}
use Rattle.zim_static.proofs.ListLemmas.{any_left}
use Rattle.zim_static.proofs.varies.+varies.Given as goal

abbrev pub invariant-one_varies-loop-tree : goal.invariant-one_varies-loop-tree
invariant-one_varies-loop-tree l = any_left (has_variables l.scope) l.trees l.tree-index (list_any (has_variables l.scope) l.trees)

abbrev pub invariant-one_tuple_varies-loop-tuple : goal.invariant-one_tuple_varies-loop-tuple
invariant-one_tuple_varies-loop-tuple l = any_left (tuple_has_variables l.scope) l.tuples l.tuple-index (list_any (tuple_has_variables l.scope) l.tuples)

abbrev pub invariant-one_operand_varies-loop-place : goal.invariant-one_operand_varies-loop-place
invariant-one_operand_varies-loop-place l = any_left (λ (x : Place × Token × Expr). has_variables l.scope x.2) l.others l._place-index (list_any (λ (x : Place × Token × Expr). has_variables l.scope x.2) l.others)

abbrev pub invariant-one_side_varies-loop-place : goal.invariant-one_side_varies-loop-place
invariant-one_side_varies-loop-place l = any_left (λ (x : Place × Relation × Expr). has_variables l.scope x.2) l.others l._place-index (list_any (λ (x : Place × Relation × Expr). has_variables l.scope x.2) l.others)

abbrev pub invariant-one_disjunct_varies-loop-place : goal.invariant-one_disjunct_varies-loop-place
invariant-one_disjunct_varies-loop-place l = any_left (λ (x : Place × Bool × Expr). has_variables l.scope x.2) l.others l._place-index (list_any (λ (x : Place × Bool × Expr). has_variables l.scope x.2) l.others)

abbrev pub invariant-one_conjunct_varies-loop-place : goal.invariant-one_conjunct_varies-loop-place
invariant-one_conjunct_varies-loop-place l = any_left (λ (x : Place × Expr). has_variables l.scope x.1) l.others l._place-index (list_any (λ (x : Place × Expr). has_variables l.scope x.1) l.others)
