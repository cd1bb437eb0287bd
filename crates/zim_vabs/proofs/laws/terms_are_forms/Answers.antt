use Rattle.zim_vabs.proofs.TermLaws.{term_form}
use Rattle.zim_vabs.proofs.laws.terms_are_forms.Goals as goal

pub returns : goal.returns
returns c = term_form
