use Rattle.zim_build.proofs.NameLemmas.{one_name}
use Rattle.zim_build.proofs.laws.a_name_is_one_model.Goals as goal

pub returns : goal.returns
returns c files name = one_name files name
