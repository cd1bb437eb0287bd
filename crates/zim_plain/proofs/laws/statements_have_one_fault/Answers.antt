use Rattle.zim_plain.proofs.FaultLaws.{one_first_fault}
use Rattle.zim_plain.proofs.laws.statements_have_one_fault.Goals as goal

pub returns : goal.returns
returns c = one_first_fault
