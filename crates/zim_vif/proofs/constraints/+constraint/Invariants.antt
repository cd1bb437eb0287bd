-- The parts lead from the system so far to what all of them make; each call has less left than its caller.
use Rattle.std.proofs.Common.{◌+◌, ◌*◌}
use Rattle.zim_vif.proofs.ConstraintCallLemmas.{IsAsking}
use Rattle.zim_vif.proofs.ConstraintWeightLemmas.{weight, parts_weigh, other_weighs}
use Rattle.zim_vif.proofs.constraints.+constraint.Given as goal

abbrev pub invariant-each-loop-part : goal.invariant-each-loop-part
invariant-each-loop-part l =
    IsAsking l.statement l.guard l.initial.system l.parts l.part-index l.system

abbrev pub decreases-constraint : goal.decreases-constraint
decreases-constraint l = 4 * weight l.c.now

abbrev pub decreases-each : goal.decreases-each
decreases-each l = 4 * parts_weigh l.parts.now + 1

abbrev pub decreases-choice : goal.decreases-choice
decreases-choice l = 4 * (weight l.first.now + other_weighs l.otherwise.now) + 3

abbrev pub decreases-under : goal.decreases-under
decreases-under l = 4 * weight l.c.now + 2
