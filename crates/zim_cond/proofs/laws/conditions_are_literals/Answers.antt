-- The law of conditions, from the system itself.
use Rattle.zim_cond.proofs.ConditionCallLemmas.{condition_literal}
use Rattle.zim_cond.proofs.laws.conditions_are_literals.Goals as goal

pub returns : goal.returns
returns c = condition_literal
