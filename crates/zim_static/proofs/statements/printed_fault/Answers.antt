-- One step, and the end.
use Rattle.std.proofs.Common.{refl, ap, ◌∙◌}
use Rattle.std.specs.Option.{option_or}
use Rattle.zim_static.specs.Around.{names_in}
use Rattle.zim_static.specs.StatementFaults.{all_printed_faults, printed_faults}
use Rattle.zim_static.proofs.FaultLoopLemmas.{loop_next, loop_end}
use Rattle.zim_static.proofs.statements.printed_fault.Goals as goal

pub loop-item-preserved : goal.loop-item-preserved
loop-item-preserved c =
    loop_next (λ left. all_printed_faults c.args.scope.now (names_in c.args.scope.now c.args.around.now) left) (λ left. all_printed_faults c.args.scope.now (names_in c.args.scope.now c.args.around.now) left) (printed_faults c.args.scope.now (names_in c.args.scope.now c.args.around.now) c.item-item.result) c.args.items.now c.loop-item.item-index c.item-item.result c.loop-item-test.true c.item-item.is (λ rest. refl) c.loop-item.fault
    (c.or-fault.ensures ∙ ap (option_or c.loop-item.fault) c.item_fault.ensures)
    c.loop-item.invariant

pub returns : goal.returns
returns c = loop_end (λ left. all_printed_faults c.args.scope.now (names_in c.args.scope.now c.args.around.now) left) c.args.items.now c.loop-item.item-index c.loop-item-test.false refl c.loop-item.fault c.loop-item.invariant
