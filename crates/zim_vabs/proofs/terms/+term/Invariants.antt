-- The operands and the members lead from what was made so far to what all of them make; each call has less left than its caller.
use Rattle.std.proofs.Common.{◌+◌, ◌*◌, length}
use Rattle.zim_vabs.proofs.TermCallLemmas.{IsSumming, IsAddingMembers}
use Rattle.zim_vabs.proofs.WeightLemmas.{weight, operands_weigh, members_weigh}
use Rattle.zim_vabs.proofs.terms.+term.Given as goal

abbrev pub invariant-sum-loop-operand : goal.invariant-sum-loop-operand
invariant-sum-loop-operand l =
    IsSumming l.statement (length l.fn.system.columns) (l.initial.sum, l.initial.system) l.others l.operand-index (l.sum, l.system)

abbrev pub invariant-sum_over-loop-member : goal.invariant-sum_over-loop-member
invariant-sum_over-loop-member l =
    IsAddingMembers l.statement (length l.fn.system.columns) l.place (l.initial.sum, l.initial.system) l.members l.member-index (l.sum, l.system)

abbrev pub decreases-term : goal.decreases-term
decreases-term l = 2 * weight l.t.now

abbrev pub decreases-absolute_term : goal.decreases-absolute_term
decreases-absolute_term l = 2 * weight l.t.now + 1

abbrev pub decreases-sum : goal.decreases-sum
decreases-sum l = 2 * operands_weigh l.others.now + 1

abbrev pub decreases-sum_over : goal.decreases-sum_over
decreases-sum_over l = 2 * members_weigh l.members.now + 1
