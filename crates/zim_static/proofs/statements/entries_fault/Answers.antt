-- One step, and the end.
use Rattle.std.proofs.Common.{refl}
use Rattle.zim_static.specs.Around.{names_in}
use Rattle.zim_static.specs.StatementFaults.{entries_faults, entry_faults}
use Rattle.zim_static.proofs.FaultLoopLemmas.{loop_next, loop_end, or_two}
use Rattle.zim_static.proofs.statements.entries_fault.Goals as goal

pub loop-tuple-preserved : goal.loop-tuple-preserved
loop-tuple-preserved c =
    loop_next (λ left. entries_faults c.args.scope.now (names_in c.args.scope.now c.args.around.now) left) (λ left. entries_faults c.args.scope.now (names_in c.args.scope.now c.args.around.now) left) (entry_faults c.args.scope.now (names_in c.args.scope.now c.args.around.now) c.loop-tuple-item.result) c.args.entries.now c.loop-tuple.tuple-index c.loop-tuple-item.result c.loop-tuple-test.true c.loop-tuple-item.is (λ rest. refl) c.loop-tuple.fault
    (or_two c.loop-tuple.fault _ _ c.tuple_fault.ensures c.or.ensures c.value_fault.ensures c.or-fault.ensures)
    c.loop-tuple.invariant

pub returns : goal.returns
returns c = loop_end (λ left. entries_faults c.args.scope.now (names_in c.args.scope.now c.args.around.now) left) c.args.entries.now c.loop-tuple.tuple-index c.loop-tuple-test.false refl c.loop-tuple.fault c.loop-tuple.invariant
