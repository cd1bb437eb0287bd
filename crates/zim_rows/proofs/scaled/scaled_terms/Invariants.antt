use Rattle.std.proofs.Common.{length}
use Rattle.zim_rows.proofs.ScaledLemmas.{IsScalingTerms}
use Rattle.zim_rows.proofs.scaled.scaled_terms.Given as goal

abbrev pub invariant-loop-t : goal.invariant-loop-t
invariant-loop-t l = IsScalingTerms l.fn.k l.fn.rest l.made.items l.rest

abbrev pub decreases-loop-t : goal.decreases-loop-t
decreases-loop-t l = length l.rest
