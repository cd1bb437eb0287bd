use Rattle.std.proofs.Common.{sym, ap, ◌∙◌}
use Rattle.zim_static.specs.Around.{names_in}
use Rattle.zim_sort.specs.Parts.{as_condition}
use Rattle.zim_sort.proofs.ConditionLemmas.{as_some_cond}
use Rattle.zim_sort.proofs.conditions.condition.Goals as goal

pub returns : goal.returns
returns c = c.condition_of.ensures ∙ ap as_condition c.in_ok-condition_part.ensures ∙ as_some_cond c.args.scope.now (names_in c.args.scope.now c.args.around.now) c.args.tree.now
