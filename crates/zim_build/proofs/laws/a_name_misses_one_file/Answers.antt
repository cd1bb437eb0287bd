use Rattle.zim_build.proofs.NameLemmas.{one_file}
use Rattle.zim_build.proofs.laws.a_name_misses_one_file.Goals as goal

pub returns : goal.returns
returns c files name = one_file files name
