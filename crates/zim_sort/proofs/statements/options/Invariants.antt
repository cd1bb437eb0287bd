-- What the loop has come past is made.
use Rattle.std.proofs.Common.{◌≡◌, take}
use Rattle.zim_static.specs.Around.{names_in}
use Rattle.zim_typing.specs.Statements.{typed_options}
use Rattle.zim_sort.proofs.statements.options.Given as goal

abbrev pub invariant-loop-place : goal.invariant-loop-place
invariant-loop-place l = l.made ≡ typed_options l.scope (names_in l.scope l.around) (take l.place-index l.trees)
