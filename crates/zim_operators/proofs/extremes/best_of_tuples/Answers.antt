-- One more, a fault, and the end.
use Rattle.std.proofs.Common.{None, sym}
use Rattle.zim_answer.specs.Answer.{goes}
use Rattle.zim_answer.proofs.GoesLemmas.{goes_done}
use Rattle.zim_meaning.specs.Operations.{best_with_tuple}
use Rattle.zim_operators.proofs.LoopLemmas.{next_at, fault_at}
use Rattle.zim_operators.proofs.extremes.best_of_tuples.Goals as goal

pub returns-in-Err : goal.returns-in-Err
returns-in-Err c =
    fault_at (best_with_tuple c.args.greatest) c.loop-tuple.best c.args.tuples.now c.loop-tuple.tuple-index c.tuple-item.result c.in-Err.kind (goes (best_with_tuple c.args.greatest) None c.args.tuples.now) c.loop-tuple-test.true c.tuple-item.is (sym c.in-Err.ensures) c.loop-tuple.invariant

pub loop-tuple-preserved : goal.loop-tuple-preserved
loop-tuple-preserved c =
    next_at (best_with_tuple c.args.greatest) c.loop-tuple.best c.in-Ok.next c.args.tuples.now c.loop-tuple.tuple-index c.tuple-item.result (goes (best_with_tuple c.args.greatest) None c.args.tuples.now) c.loop-tuple-test.true c.tuple-item.is (sym c.in-Ok.ensures) c.loop-tuple.invariant

pub returns : goal.returns
returns c = sym (goes_done (best_with_tuple c.args.greatest) c.loop-tuple.best c.args.tuples.now c.loop-tuple.tuple-index (goes (best_with_tuple c.args.greatest) None c.args.tuples.now) c.loop-tuple-test.false c.loop-tuple.invariant)
