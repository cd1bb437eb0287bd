-- The field is the fraction's denominator.
use Rattle.std.proofs.Common.{ℕ, ◌≤◌, subst}
use Rattle.zim_fraction.specs.Limit.{limit}
use Rattle.zim_fraction.proofs.FieldLemmas.{read_denom, denom_is, denom_bound}
use Rattle.zim_fraction.proofs.fraction.Fraction.denom.Goals as goal

pub returns-clause-value : goal.returns-clause-value
returns-clause-value c = read_denom _ _ c.self.invariant c.self.view_is

pub returns-clause-bound : goal.returns-clause-bound
returns-clause-bound c =
    subst (λ (n : ℕ). n ≤ limit) (denom_is c.self.inside _ c.self.invariant c.self.view_is) (denom_bound c.self.inside c.self.invariant)
