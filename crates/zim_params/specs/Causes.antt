-- What the errors of this crate's calls tell.
use Rattle.zim_answer.specs.Gives.{Cause, NoMemory, Met}
use Rattle.zim_params.specs.declared.param.InsertFault.{InsertFault}
use Rattle.zim_params.specs.declared.param.InsertFault.TheVariants.{Twice, Memory}

-- what an error tells: that memory was refused, or the fault
abbrev pub insert_cause : InsertFault → Cause InsertFault
insert_cause Twice = Met Twice
insert_cause Memory = NoMemory
