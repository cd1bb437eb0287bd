use Rattle.std.proofs.Common.{length}
use Rattle.zim_vabs.proofs.IntegerCallLemmas.{IsScanning}
use Rattle.zim_vabs.proofs.integers.offence.Given as goal

abbrev pub invariant-loop-t : goal.invariant-loop-t
invariant-loop-t l = IsScanning l.system.columns l.fn.terms l.terms

abbrev pub decreases-loop-t : goal.decreases-loop-t
decreases-loop-t l = length l.terms
