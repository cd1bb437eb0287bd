use Rattle.std.proofs.Common.{length, unsigned_abs}
use Rattle.zim_linear.proofs.IntegerLemmas.{IsMultiplying}
use Rattle.zim_linear.proofs.integers.multiple.Given as goal

abbrev pub invariant-loop-t : goal.invariant-loop-t
invariant-loop-t l = IsMultiplying (unsigned_abs l.first) l.fn.rest l.k l.rest

abbrev pub decreases-loop-t : goal.decreases-loop-t
decreases-loop-t l = length l.rest
