use Rattle.zim_build.proofs.OneOfThree.{one_of_three}
use Rattle.zim_build.proofs.laws.a_name_is_one_of_three.Goals as goal

pub returns : goal.returns
returns c files name = one_of_three files name
