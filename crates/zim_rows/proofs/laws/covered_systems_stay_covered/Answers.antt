use Rattle.zim_rows.proofs.CoveredStepLaws.{covered_further, short_further, column_covered, row_covered}
use Rattle.zim_rows.proofs.laws.covered_systems_stay_covered.Goals as goal

pub returns-clause-step : goal.returns-clause-step
returns-clause-step c = covered_further

pub returns-clause-short : goal.returns-clause-short
returns-clause-short c = short_further

pub returns-clause-column : goal.returns-clause-column
returns-clause-column c = column_covered

pub returns-clause-row : goal.returns-clause-row
returns-clause-row c = row_covered
