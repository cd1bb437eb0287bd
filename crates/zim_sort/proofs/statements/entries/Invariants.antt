-- What the loop has come past is made.
use Rattle.std.proofs.Common.{◌≡◌, take}
use Rattle.zim_static.specs.Around.{names_in}
use Rattle.zim_typing.specs.Statements.{typed_entries}
use Rattle.zim_sort.proofs.statements.entries.Given as goal

abbrev pub invariant-loop-index : goal.invariant-loop-index
invariant-loop-index l = l.made ≡ typed_entries l.scope (names_in l.scope l.around) (take l.index-index l.trees)
