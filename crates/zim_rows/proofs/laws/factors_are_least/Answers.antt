use Rattle.zim_rows.proofs.FactorLemmas.{factor_is_least}
use Rattle.zim_rows.proofs.laws.factors_are_least.Goals as goal

pub returns : goal.returns
returns c = factor_is_least
