-- One step, and the end.
use Rattle.std.proofs.Common.{refl, ap, ◌∙◌}
use Rattle.std.specs.Option.{option_or}
use Rattle.zim_static.specs.Around.{names_in}
use Rattle.zim_static.specs.StatementFaults.{limits_faults, limit_faults}
use Rattle.zim_static.proofs.FaultLoopLemmas.{loop_next, loop_end}
use Rattle.zim_static.proofs.statements.limits_fault.Goals as goal

pub loop-limit-preserved : goal.loop-limit-preserved
loop-limit-preserved c =
    loop_next (λ left. limits_faults c.args.scope.now (names_in c.args.scope.now c.args.around.now) left) (λ left. limits_faults c.args.scope.now (names_in c.args.scope.now c.args.around.now) left) (limit_faults c.args.scope.now (names_in c.args.scope.now c.args.around.now) c.limit-item.result) c.args.limits.now c.loop-limit.limit-index c.limit-item.result c.loop-limit-test.true c.limit-item.is (λ rest. refl) c.loop-limit.fault
    (c.or-fault.ensures ∙ ap (option_or c.loop-limit.fault) (simp c.get.ensures at c.fault_in.ensures))
    c.loop-limit.invariant

pub returns : goal.returns
returns c = loop_end (λ left. limits_faults c.args.scope.now (names_in c.args.scope.now c.args.around.now) left) c.args.limits.now c.loop-limit.limit-index c.loop-limit-test.false refl c.loop-limit.fault c.loop-limit.invariant
