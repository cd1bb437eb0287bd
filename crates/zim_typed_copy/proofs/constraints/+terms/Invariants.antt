-- The terms are copied as far as the loop has come.
use Rattle.std.proofs.Common.{◌≡◌, take}
use Rattle.zim_typed_copy.proofs.constraints.+terms.Given as goal

abbrev pub invariant-copy_summands-loop-place : goal.invariant-copy_summands-loop-place
invariant-copy_summands-loop-place l = l.made ≡ take l.place-index l.others
