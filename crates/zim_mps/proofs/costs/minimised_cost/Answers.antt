-- The negative of a short number is short.
use Rattle.std.proofs.Common.{subst, sym, IsTrue}
use Rattle.zim_decimal.specs.Short.{is_short}
use Rattle.zim_mps.proofs.Numbers.{short_negate}
use Rattle.zim_mps.proofs.costs.minimised_cost.Goals as goal

pub returns-then-maximize-clause-short : goal.returns-then-maximize-clause-short
returns-then-maximize-clause-short c = subst (λ q. IsTrue (is_short q)) (sym c.negated.ensures) (short_negate _ c.requires)
