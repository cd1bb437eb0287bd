use Rattle.std.proofs.Common.{length}
use Rattle.zim_linear.proofs.EndLemmas.{IsAdding}
use Rattle.zim_linear.proofs.ends.end.Given as goal

abbrev pub invariant-loop-t : goal.invariant-loop-t
invariant-loop-t l = IsAdding l.end l.sides l.terms l.sum l.rest

abbrev pub decreases-loop-t : goal.decreases-loop-t
decreases-loop-t l = length l.rest
