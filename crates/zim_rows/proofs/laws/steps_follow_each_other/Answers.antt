use Rattle.zim_rows.proofs.ExtendingLaws.{once_further, narrows_further_to, widens_further}
use Rattle.zim_rows.proofs.laws.steps_follow_each_other.Goals as goal

pub returns-clause-once : goal.returns-clause-once
returns-clause-once c = once_further

pub returns-clause-narrows : goal.returns-clause-narrows
returns-clause-narrows c = narrows_further_to

pub returns-clause-widens : goal.returns-clause-widens
returns-clause-widens c = widens_further
