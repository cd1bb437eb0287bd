use Rattle.std.proofs.Common.{length}
use Rattle.zim_rows.proofs.ScaledLemmas.{IsScalingRows}
use Rattle.zim_rows.proofs.scaled.scaled_rows.Given as goal

abbrev pub invariant-loop-given : goal.invariant-loop-given
invariant-loop-given l = IsScalingRows l.fn.rest l.made.items l.rest

abbrev pub decreases-loop-given : goal.decreases-loop-given
decreases-loop-given l = length l.rest
