use Rattle.zim_forms.proofs.AnswerLemmas.{gives_sum}
use Rattle.zim_forms.proofs.forms.sum.Goals as goal

pub returns : goal.returns
returns c = gives_sum _ _ _ c.terms-ordered.ensures.ordered c.add.ensures
