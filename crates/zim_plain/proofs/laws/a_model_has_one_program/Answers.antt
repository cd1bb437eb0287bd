use Rattle.zim_plain.proofs.FaultLaws.{one_program}
use Rattle.zim_plain.proofs.laws.a_model_has_one_program.Goals as goal

pub returns : goal.returns
returns c = one_program
