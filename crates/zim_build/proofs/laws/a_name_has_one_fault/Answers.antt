use Rattle.zim_build.proofs.NameLemmas.{one_fault}
use Rattle.zim_build.proofs.laws.a_name_has_one_fault.Goals as goal

pub returns : goal.returns
returns c files name = one_fault files name
