use Rattle.zim_plain.proofs.FaultLaws.{one_model}
use Rattle.zim_plain.proofs.laws.statements_are_one_model.Goals as goal

pub returns : goal.returns
returns c = one_model
