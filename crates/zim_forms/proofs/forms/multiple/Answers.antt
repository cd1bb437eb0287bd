use Rattle.zim_forms.proofs.AnswerLemmas.{gives_multiple}
use Rattle.zim_forms.proofs.forms.multiple.Goals as goal

pub returns : goal.returns
returns c = gives_multiple _ _ _ c.scale.ensures
