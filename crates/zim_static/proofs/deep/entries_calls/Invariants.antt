-- The greatest of those that the loop has come past.
use Rattle.std.proofs.Common.{◌≡◌, max, map, take}
use Rattle.zim_tree.specs.declared.expr.Expr.{Expr}
use Rattle.zim_tree.specs.declared.expr.Angle.{Angle}
use Rattle.zim_typed.specs.Nesting.{greatest}
use Rattle.zim_static.specs.Calls.{calls, tuple_calls}
use Rattle.zim_static.proofs.deep.entries_calls.Given as goal

abbrev pub invariant-loop-tuple : goal.invariant-loop-tuple
invariant-loop-tuple l = l.deepest ≡ greatest (map (λ (entry : Angle × Expr). max (tuple_calls l.scope entry.0) (calls l.scope entry.1)) (take l.tuple-index l.entries))
