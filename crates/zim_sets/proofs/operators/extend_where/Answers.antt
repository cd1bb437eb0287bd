use Rattle.std.proofs.Common.{sym}
use Rattle.std.proofs.lemmas.Result.{err_from_is_err_and}
use Rattle.std.specs.Bool.{beq}
use Rattle.zim_answer.proofs.GivesLemmas.{Stops-goes}
use Rattle.zim_answer.proofs.GoesLemmas.{goes_next, goes_done}
use Rattle.zim_answer.specs.Answer.{goes}
use Rattle.zim_sets.specs.Causes.{set_cause}
use Rattle.zim_sets.specs.Insertion.{inserted_where}
use Rattle.zim_sets.specs.Sets.{has}
use Rattle.zim_sets.proofs.operators.extend_where.Goals as goal

pub returns-in_err-insert_where : goal.returns-in_err-insert_where
returns-in_err-insert_where c =
    let p = err_from_is_err_and c.from_residual.result c.from_residual.ensures.1 in
    let step = inserted_where (λ t. beq (has c.args.other.now t) c.args.wanted) in
    rw (p.1, p.2) (Stops-goes step c.loop-tuple.made c.args.from.now c.loop-tuple.tuple-index c.tuple-item.result (set_cause c.in_err-insert_where.field-0.0) (goes step c.args.made.now c.args.from.now) c.loop-tuple-test.true (sym c.tuple-item.is) c.in_err-insert_where.ensures c.loop-tuple.invariant)

pub loop-tuple-preserved : goal.loop-tuple-preserved
loop-tuple-preserved c =
    let step = inserted_where (λ t. beq (has c.args.other.now t) c.args.wanted) in
    goes_next step c.loop-tuple.made c.insert_where.new.made c.args.from.now c.loop-tuple.tuple-index c.tuple-item.result (goes step c.args.made.now c.args.from.now) c.loop-tuple-test.true (sym c.tuple-item.is) c.in_ok-insert_where.ensures c.loop-tuple.invariant

pub returns : goal.returns
returns c =
    let step = inserted_where (λ t. beq (has c.args.other.now t) c.args.wanted) in
    goes_done step c.loop-tuple.made c.args.from.now c.loop-tuple.tuple-index (goes step c.args.made.now c.args.from.now) c.loop-tuple-test.false c.loop-tuple.invariant
