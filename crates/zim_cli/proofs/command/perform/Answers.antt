-- Words that are no job, and want of memory for them.
use Rattle.zim_cli.proofs.PerformLemmas.{usage_by, job_refused}
use Rattle.zim_cli.proofs.command.perform.Goals as goal

pub returns-in-Ok-None-clause-ended : goal.returns-in-Ok-None-clause-ended
returns-in-Ok-None-clause-ended g c = usage_by _ _ _ c.job.result c.in-Ok-None.field-0 c.in-Ok-None.is c.in-Ok-None.field-0-is c.job.ensures

pub returns-in-Err-clause-ended : goal.returns-in-Err-clause-ended
returns-in-Err-clause-ended g c = job_refused _ _ _
