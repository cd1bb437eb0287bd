-- One step, and the end.
use Rattle.std.proofs.Common.{refl, ap, ◌∙◌}
use Rattle.std.specs.Option.{option_or}
use Rattle.zim_static.specs.Around.{names_in}
use Rattle.zim_static.specs.StatementFaults.{options_faults, value_faults}
use Rattle.zim_static.proofs.FaultLoopLemmas.{loop_next, loop_end}
use Rattle.zim_static.proofs.statements.options_fault.Goals as goal

pub loop-place-preserved : goal.loop-place-preserved
loop-place-preserved c =
    loop_next (λ left. options_faults c.args.scope.now (names_in c.args.scope.now c.args.around.now) left) (λ left. options_faults c.args.scope.now (names_in c.args.scope.now c.args.around.now) left) (value_faults c.args.scope.now (names_in c.args.scope.now c.args.around.now) c.loop-place-item.result.2) c.args.options.now c.loop-place._place-index c.loop-place-item.result c.loop-place-test.true c.loop-place-item.is (λ rest. refl) c.loop-place.fault
    (c.or-fault.ensures ∙ ap (option_or c.loop-place.fault) c.value_fault.ensures)
    c.loop-place.invariant

pub returns : goal.returns
returns c = loop_end (λ left. options_faults c.args.scope.now (names_in c.args.scope.now c.args.around.now) left) c.args.options.now c.loop-place._place-index c.loop-place-test.false refl c.loop-place.fault c.loop-place.invariant
