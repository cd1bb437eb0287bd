-- What the loop has come past is made.
use Rattle.std.proofs.Common.{◌≡◌, take, map}
use Rattle.zim_static.specs.Around.{names_in}
use Rattle.zim_typing.specs.Statements.{typed_printed}
use Rattle.zim_sort.proofs.statements.all_printed.Given as goal

abbrev pub invariant-loop-item : goal.invariant-loop-item
invariant-loop-item l = l.made ≡ map (typed_printed l.scope (names_in l.scope l.around)) (take l.item-index l.items)
