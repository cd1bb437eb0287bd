-- The operands lead from the literal so far to what all of them make; each call has less left than its caller.
use Rattle.std.proofs.Common.{◌+◌, ◌*◌, length}
use Rattle.zim_cond.proofs.ConditionCallLemmas.{IsChaining}
use Rattle.zim_cond.proofs.ConditionWeightLemmas.{weight, joined_weigh}
use Rattle.zim_cond.proofs.conditions.+condition.Given as goal

abbrev pub invariant-chain-loop-operand : goal.invariant-chain-loop-operand
invariant-chain-loop-operand l =
    IsChaining l.from (length l.fn.system.columns) (l.initial.p, l.initial.system) l.others l.operand-index (l.p, l.system)

abbrev pub decreases-condition : goal.decreases-condition
decreases-condition l = 2 * weight l.c.now

abbrev pub decreases-chain : goal.decreases-chain
decreases-chain l = 2 * joined_weigh l.others.now + 1
