use Rattle.zim_build.proofs.NameLemmas.{at_most_one}
use Rattle.zim_build.proofs.laws.a_name_is_only_one_of_three.Goals as goal

pub returns : goal.returns
returns c files name = at_most_one files name
