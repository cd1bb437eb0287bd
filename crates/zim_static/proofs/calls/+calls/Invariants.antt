-- The greatest of those that a loop has come past.
use Rattle.std.proofs.Common.{◌≡◌, Bool, map, take}
use Rattle.zim_fault.specs.declared.faults.Place.{Place}
use Rattle.zim_fault.specs.declared.tokens.Token.{Token}
use Rattle.zim_fault.specs.declared.tokens.Relation.{Relation}
use Rattle.zim_tree.specs.declared.expr.Expr.{Expr}
use Rattle.zim_typed.specs.Nesting.{greatest}
use Rattle.zim_static.specs.Calls.{calls, tuple_calls}
use Rattle.zim_static.proofs.calls.+calls.Given as goal

abbrev pub invariant-all_calls-loop-tree : goal.invariant-all_calls-loop-tree
invariant-all_calls-loop-tree l = l.deepest ≡ greatest (map (calls l.scope) (take l.tree-index l.trees))

abbrev pub invariant-all_tuple_calls-loop-tuple : goal.invariant-all_tuple_calls-loop-tuple
invariant-all_tuple_calls-loop-tuple l = l.deepest ≡ greatest (map (tuple_calls l.scope) (take l.tuple-index l.tuples))

abbrev pub invariant-operand_calls-loop-place : goal.invariant-operand_calls-loop-place
invariant-operand_calls-loop-place l = l.deepest ≡ greatest (map (λ (x : Place × Token × Expr). calls l.scope x.2) (take l._place-index l.others))

abbrev pub invariant-side_calls-loop-place : goal.invariant-side_calls-loop-place
invariant-side_calls-loop-place l = l.deepest ≡ greatest (map (λ (x : Place × Relation × Expr). calls l.scope x.2) (take l._place-index l.others))

abbrev pub invariant-disjunct_calls-loop-place : goal.invariant-disjunct_calls-loop-place
invariant-disjunct_calls-loop-place l = l.deepest ≡ greatest (map (λ (x : Place × Bool × Expr). calls l.scope x.2) (take l._place-index l.others))

abbrev pub invariant-conjunct_calls-loop-place : goal.invariant-conjunct_calls-loop-place
invariant-conjunct_calls-loop-place l = l.deepest ≡ greatest (map (λ (x : Place × Expr). calls l.scope x.1) (take l._place-index l.others))
