use Rattle.zim_columns.proofs.BoundsLaws.{asked_kept, none_asked}
use Rattle.zim_columns.proofs.laws.columns_keep_what_is_asked.Goals as goal

pub returns-clause-keeps : goal.returns-clause-keeps
returns-clause-keeps c = asked_kept

pub returns-clause-none : goal.returns-clause-none
returns-clause-none c = none_asked
