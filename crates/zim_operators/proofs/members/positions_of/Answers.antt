-- One more, a fault, and the end.
use Rattle.std.proofs.Common.{[]}
use Rattle.std.proofs.lemmas.Result.{err_from_is_err_and}
use Rattle.zim_answer.specs.Answer.{goes}
use Rattle.zim_answer.proofs.GoesLemmas.{goes_done}
use Rattle.zim_meaning.specs.Operations.{with_position}
use Rattle.zim_operators.specs.Causes.{stop_cause}
use Rattle.zim_operators.proofs.LoopLemmas.{next_at, stop_at}
use Rattle.zim_operators.proofs.members.positions_of.Goals as goal

pub returns-in_err-add_position : goal.returns-in_err-add_position
returns-in_err-add_position c =
    let p = err_from_is_err_and c.from_residual.result c.from_residual.ensures.1 in
    rw (p.1, p.2)
    (stop_at with_position c.loop-value.positions c.args.values.now c.loop-value.value-index c.value-item.result (stop_cause c.in_err-add_position.field-0.0) (goes with_position [] c.args.values.now) c.loop-value-test.true c.value-item.is c.in_err-add_position.ensures c.loop-value.invariant)

pub loop-value-preserved : goal.loop-value-preserved
loop-value-preserved c =
    next_at with_position c.loop-value.positions c.add_position.new.positions c.args.values.now c.loop-value.value-index c.value-item.result (goes with_position [] c.args.values.now) c.loop-value-test.true c.value-item.is c.in_ok-add_position.ensures c.loop-value.invariant

pub returns : goal.returns
returns c = goes_done with_position c.loop-value.positions c.args.values.now c.loop-value.value-index (goes with_position [] c.args.values.now) c.loop-value-test.false c.loop-value.invariant
