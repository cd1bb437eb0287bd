use Rattle.std.proofs.Common.{length}
use Rattle.zim_linear.proofs.ScaleLaws.{IsScaling}
use Rattle.zim_linear.proofs.multiple.scaled.Given as goal

abbrev pub invariant-loop-t : goal.invariant-loop-t
invariant-loop-t l = IsScaling l.fn.rest l.q l.made.items l.rest

abbrev pub decreases-loop-t : goal.decreases-loop-t
decreases-loop-t l = length l.rest
