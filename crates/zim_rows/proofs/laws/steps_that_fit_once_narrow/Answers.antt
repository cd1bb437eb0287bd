use Rattle.zim_rows.proofs.StepLaws.{step_narrows_to, step_widens}
use Rattle.zim_rows.proofs.laws.steps_that_fit_once_narrow.Goals as goal

pub returns-clause-narrows : goal.returns-clause-narrows
returns-clause-narrows c = step_narrows_to

pub returns-clause-widens : goal.returns-clause-widens
returns-clause-widens c = step_widens
