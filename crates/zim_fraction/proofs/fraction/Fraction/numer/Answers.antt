-- The field is the fraction's numerator.
use Rattle.zim_fraction.proofs.FieldLemmas.{read_numer}
use Rattle.zim_fraction.proofs.fraction.Fraction.numer.Goals as goal

pub returns-clause-value : goal.returns-clause-value
returns-clause-value c = read_numer _ _ c.self.invariant c.self.view_is
