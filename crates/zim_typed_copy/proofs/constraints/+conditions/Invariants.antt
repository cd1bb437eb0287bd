-- The conditions are copied as far as the loop has come.
use Rattle.std.proofs.Common.{◌≡◌, take}
use Rattle.zim_typed_copy.proofs.constraints.+conditions.Given as goal

abbrev pub invariant-copy_joined-loop-place : goal.invariant-copy_joined-loop-place
invariant-copy_joined-loop-place l = l.made ≡ take l.place-index l.others
