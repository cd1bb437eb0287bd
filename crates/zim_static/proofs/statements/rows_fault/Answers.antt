-- One step, and the end.
use Rattle.std.proofs.Common.{refl}
use Rattle.zim_static.specs.Around.{names_in}
use Rattle.zim_static.specs.StatementFaults.{rows_faults, row_faults}
use Rattle.zim_static.proofs.FaultLoopLemmas.{loop_next, loop_end, or_two}
use Rattle.zim_static.proofs.statements.rows_fault.Goals as goal

pub loop-items-preserved : goal.loop-items-preserved
loop-items-preserved c =
    loop_next (λ left. rows_faults c.args.scope.now (names_in c.args.scope.now c.args.around.now) left) (λ left. rows_faults c.args.scope.now (names_in c.args.scope.now c.args.around.now) left) (row_faults c.args.scope.now (names_in c.args.scope.now c.args.around.now) c.loop-items-item.result) c.args.rows.now c.loop-items.items-index c.loop-items-item.result c.loop-items-test.true c.loop-items-item.is (λ rest. refl) c.loop-items.fault
    (or_two c.loop-items.fault _ _ (simp c.as_slice.ensures at c.values_fault.ensures) c.or.ensures (simp c.as_slice-in-loop-items.ensures at c.values_fault-in-loop-items.ensures) c.or-fault.ensures)
    c.loop-items.invariant

pub returns : goal.returns
returns c = loop_end (λ left. rows_faults c.args.scope.now (names_in c.args.scope.now c.args.around.now) left) c.args.rows.now c.loop-items.items-index c.loop-items-test.false refl c.loop-items.fault c.loop-items.invariant
