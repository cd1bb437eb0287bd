-- The greatest of those that the loop has come past.
use Rattle.std.proofs.Common.{◌≡◌, map, take}
use Rattle.zim_typed.specs.Nesting.{greatest}
use Rattle.zim_static.specs.Calls.{printed_calls}
use Rattle.zim_static.proofs.deep.printed_calls.Given as goal

abbrev pub invariant-loop-item : goal.invariant-loop-item
invariant-loop-item l = l.deepest ≡ greatest (map (printed_calls l.scope) (take l.item-index l.items))
