use Rattle.zim_build.proofs.ProgramLemmas.{one_program}
use Rattle.zim_build.proofs.laws.a_model_has_one_program.Goals as goal

pub returns : goal.returns
returns c model = one_program model
