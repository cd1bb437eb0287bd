use borrow.Author.Tests.{ltb-true}
use Rattle.zim_linear.proofs.AppendLemmas.{follows}
use Rattle.zim_linear.proofs.sum.all_after.Goals as goal

pub returns-in-Some-Some : goal.returns-in-Some-Some
returns-in-Some-Some c =
    λ above. follows _ _ _ _ c.requires.left_terms c.requires.right_terms c.in-Some-Some.ensures.value c.in-Some-Some.ensures'.value (ltb-true _ _ above)
