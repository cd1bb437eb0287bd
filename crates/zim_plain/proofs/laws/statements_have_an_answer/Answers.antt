use Rattle.zim_plain.proofs.AnswerLaws.{have_answer}
use Rattle.zim_plain.proofs.laws.statements_have_an_answer.Goals as goal

pub returns : goal.returns
returns c trees = have_answer trees
