-- One more, a fault, and the end.
use Rattle.std.proofs.Common.{None, sym}
use Rattle.zim_answer.specs.Answer.{goes}
use Rattle.zim_answer.proofs.GoesLemmas.{goes_done}
use Rattle.zim_meaning.specs.Operations.{best_with}
use Rattle.zim_operators.proofs.LoopLemmas.{next_at, fault_at}
use Rattle.zim_operators.proofs.extremes.best_of_values.Goals as goal

pub returns-in-Err : goal.returns-in-Err
returns-in-Err c =
    fault_at (best_with c.args.greatest) c.loop-value.best c.args.values.now c.loop-value.value-index c.value-item.result c.in-Err.kind (goes (best_with c.args.greatest) None c.args.values.now) c.loop-value-test.true c.value-item.is (sym c.in-Err.ensures) c.loop-value.invariant

pub loop-value-preserved : goal.loop-value-preserved
loop-value-preserved c =
    next_at (best_with c.args.greatest) c.loop-value.best c.in-Ok.next c.args.values.now c.loop-value.value-index c.value-item.result (goes (best_with c.args.greatest) None c.args.values.now) c.loop-value-test.true c.value-item.is (sym c.in-Ok.ensures) c.loop-value.invariant

pub returns : goal.returns
returns c = sym (goes_done (best_with c.args.greatest) c.loop-value.best c.args.values.now c.loop-value.value-index (goes (best_with c.args.greatest) None c.args.values.now) c.loop-value-test.false c.loop-value.invariant)
