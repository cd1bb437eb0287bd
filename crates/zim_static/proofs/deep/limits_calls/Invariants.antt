-- The greatest of those that the loop has come past.
use Rattle.std.proofs.Common.{◌≡◌, map, take}
use Rattle.zim_tree.specs.declared.stmt.Limit.{Limit}
use Rattle.zim_typed.specs.Nesting.{greatest}
use Rattle.zim_static.specs.Calls.{calls}
use Rattle.zim_static.proofs.deep.limits_calls.Given as goal

abbrev pub invariant-loop-limit : goal.invariant-loop-limit
invariant-loop-limit l = l.deepest ≡ greatest (map (λ (limit : Limit). calls l.scope limit.side) (take l.limit-index l.limits))
