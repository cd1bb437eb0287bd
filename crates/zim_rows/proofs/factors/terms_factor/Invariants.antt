use Rattle.std.proofs.Common.{length}
use Rattle.zim_rows.specs.Factors.{coefficients}
use Rattle.zim_rows.proofs.FactorLemmas.{IsFactoring}
use Rattle.zim_rows.proofs.factors.terms_factor.Given as goal

abbrev pub invariant-loop-t : goal.invariant-loop-t
invariant-loop-t l = IsFactoring (coefficients l.fn.rest) l.k (coefficients l.rest)

abbrev pub decreases-loop-t : goal.decreases-loop-t
decreases-loop-t l = length l.rest
