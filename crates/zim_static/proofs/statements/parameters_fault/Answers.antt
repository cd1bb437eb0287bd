-- One step, and the end.
use Rattle.zim_static.specs.StatementFaults.{parameters_faults}
use Rattle.zim_static.proofs.FaultLoopLemmas.{loop_end, names_before, parameters_none, parameters_step}
use Rattle.zim_static.proofs.statements.parameters_fault.Goals as goal

pub loop-i-preserved : goal.loop-i-preserved
loop-i-preserved c =
    parameters_step c.args.scope.now c.args.parameters.now c.loop-i.i c.index-parameters-i.result c.loop-i-test.true c.index-parameters-i.is c.loop-i.fault c.is_taken-again.ensures c.mark.ensures c.or-fault.ensures
    c.loop-i.invariant

pub returns : goal.returns
returns c =
    loop_end (λ left. parameters_faults c.args.scope.now (names_before c.args.parameters.now c.loop-i.i) left) c.args.parameters.now c.loop-i.i c.loop-i-test.false (parameters_none _ _) c.loop-i.fault c.loop-i.invariant
