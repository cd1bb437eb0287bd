-- The fields are the fraction's numerator and denominator.
use Rattle.zim_fraction.proofs.FieldLemmas.{read_numer, denom_is}
use Rattle.zim_fraction.proofs.fraction.Fraction.parts.Goals as goal

pub returns-clause-numer : goal.returns-clause-numer
returns-clause-numer c = read_numer _ _ c.self.invariant c.self.view_is

pub returns-clause-denom : goal.returns-clause-denom
returns-clause-denom c = denom_is _ _ c.self.invariant c.self.view_is
