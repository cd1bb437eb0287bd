use Rattle.std.proofs.Common.{length}
use Rattle.zim_linear.proofs.EndLemmas.{IsSeeking}
use Rattle.zim_linear.proofs.ends.has_end.Given as goal

abbrev pub invariant-loop-t : goal.invariant-loop-t
invariant-loop-t l = IsSeeking l.end l.sides l.fn.terms l.terms

abbrev pub decreases-loop-t : goal.decreases-loop-t
decreases-loop-t l = length l.terms
