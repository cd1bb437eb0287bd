use Rattle.zim_linear.proofs.NegationLaws.{difference_answer}
use Rattle.zim_linear.proofs.sum.sub.Goals as goal

pub returns : goal.returns
returns c = difference_answer _ _ _ _ c.in_ok-turned.ensures c.add.ensures
