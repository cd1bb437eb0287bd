-- What the loop has come past is made.
use Rattle.std.proofs.Common.{◌≡◌, take}
use Rattle.zim_static.specs.Around.{names_in}
use Rattle.zim_typing.specs.Statements.{typed_rows}
use Rattle.zim_sort.proofs.statements.rows.Given as goal

abbrev pub invariant-loop-items : goal.invariant-loop-items
invariant-loop-items l = l.made ≡ typed_rows l.scope (names_in l.scope l.around) (take l.items-index l.trees)
