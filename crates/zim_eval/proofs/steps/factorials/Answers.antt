-- One more, a fault, and the end.
use Rattle.zim_answer.specs.Answer.{goes}
use Rattle.zim_answer.proofs.GoesLemmas.{goes_done}
use Rattle.zim_eval.specs.Causes.{eval_cause}
use Rattle.zim_eval.specs.Private.{repeated_factorial}
use Rattle.zim_eval.proofs.LoopLemmas.{next_copied, stop_copied}
use Rattle.zim_eval.proofs.steps.factorials.Goals as goal

pub returns-in-Err : goal.returns-in-Err
returns-in-Err c =
    stop_copied repeated_factorial c.loop-place.value c.args.places.now c.loop-place.place-index _ (eval_cause c.in-Err.stop) (goes repeated_factorial c.args.value c.args.places.now) c.loop-place-test.true c.in-Err.ensures c.loop-place.invariant

pub loop-place-preserved : goal.loop-place-preserved
loop-place-preserved c =
    next_copied repeated_factorial c.loop-place.value c.in-Ok.next c.args.places.now c.loop-place.place-index _ (goes repeated_factorial c.args.value c.args.places.now) c.loop-place-test.true c.in-Ok.ensures c.loop-place.invariant

pub returns : goal.returns
returns c = goes_done repeated_factorial c.loop-place.value c.args.places.now c.loop-place.place-index (goes repeated_factorial c.args.value c.args.places.now) c.loop-place-test.false c.loop-place.invariant
