-- By recursion over what makes the expression the constant.
use Rattle.zim_typed.proofs.NestingLemmas.{const_nests}
use Rattle.zim_typed.proofs.law.constants_nest_as_their_trees.Goals as goal

pub returns : goal.returns
returns c = λ scope names e k d. const_nests d
