use Rattle.zim_vabs.proofs.TermLaws.{absolute_form}
use Rattle.zim_vabs.proofs.laws.absolute_values_are_forms.Goals as goal

pub returns : goal.returns
returns c = absolute_form
