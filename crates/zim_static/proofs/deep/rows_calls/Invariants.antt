-- The greatest of those that the loop has come past.
use Rattle.std.proofs.Common.{◌≡◌, List, max, map, take}
use Rattle.zim_tree.specs.declared.expr.Expr.{Expr}
use Rattle.zim_typed.specs.Nesting.{greatest}
use Rattle.zim_static.specs.Calls.{all_calls}
use Rattle.zim_static.proofs.deep.rows_calls.Given as goal

abbrev pub invariant-loop-items : goal.invariant-loop-items
invariant-loop-items l = l.deepest ≡ greatest (map (λ (row : List Expr × List Expr). max (all_calls l.scope row.0) (all_calls l.scope row.1)) (take l.items-index l.rows))
