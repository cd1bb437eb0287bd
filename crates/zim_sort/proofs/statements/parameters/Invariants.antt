-- The parameters are copied as far as the loop has come.
use Rattle.std.proofs.Common.{◌≡◌, take}
use Rattle.zim_sort.proofs.statements.parameters.Given as goal

abbrev pub invariant-loop-place : goal.invariant-loop-place
invariant-loop-place l = l.made ≡ take l.place-index l.trees
