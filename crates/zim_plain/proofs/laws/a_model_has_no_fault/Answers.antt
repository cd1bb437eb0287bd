use Rattle.zim_plain.proofs.FaultLaws.{no_first_fault}
use Rattle.zim_plain.proofs.laws.a_model_has_no_fault.Goals as goal

pub returns : goal.returns
returns c = no_first_fault
