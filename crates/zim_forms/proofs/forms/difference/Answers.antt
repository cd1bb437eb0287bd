use Rattle.zim_forms.proofs.AnswerLemmas.{gives_difference}
use Rattle.zim_forms.proofs.forms.difference.Goals as goal

pub returns : goal.returns
returns c = gives_difference _ _ _ c.terms-ordered.ensures.ordered c.sub.ensures
