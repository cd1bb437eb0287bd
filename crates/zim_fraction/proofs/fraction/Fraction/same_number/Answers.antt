-- Two fractions are one where their fields are.
use Rattle.zim_fraction.proofs.FieldLemmas.{same_by_denom, different_by_numer}
use Rattle.zim_fraction.proofs.fraction.Fraction.same_number.Goals as goal

pub returns-then-self-other : goal.returns-then-self-other
returns-then-self-other c =
    same_by_denom _ _ _ _ c.self.invariant c.other.invariant c.self.view_is c.other.view_is c.if-self-other.true

pub returns-else-self-other : goal.returns-else-self-other
returns-else-self-other c =
    different_by_numer _ _ _ _ c.self.invariant c.other.invariant c.self.view_is c.other.view_is c.if-self-other.false
