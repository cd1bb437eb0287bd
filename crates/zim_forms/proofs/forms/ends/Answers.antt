use Rattle.zim_forms.proofs.AnswerLemmas.{ends_are}
use Rattle.zim_forms.proofs.forms.ends.Goals as goal

pub returns : goal.returns
returns c = ends_are _ _ _ c.bounds.ensures.answer
