use Rattle.std.proofs.Common.{◌≡◌, take}
use Rattle.zim_typed_copy.proofs.statements.copy_parameters.Given as goal

abbrev pub invariant-loop-place : goal.invariant-loop-place
invariant-loop-place l = l.made ≡ take l.place-index l.trees
