use Rattle.zim_forms.proofs.AnswerLemmas.{gives_added}
use Rattle.zim_forms.proofs.forms.add_to.Goals as goal

pub returns-clause-sum : goal.returns-clause-sum
returns-clause-sum c = gives_added _ _ _ _ c.terms-ordered.ensures.ordered c.add_to.ensures
