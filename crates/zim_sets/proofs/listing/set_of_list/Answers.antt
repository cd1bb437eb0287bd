use Rattle.std.proofs.Common.{◌≡◌, ◌∙◌, [], sym, ap}
use Rattle.std.proofs.lemmas.Result.{err_from_is_err_and}
use Rattle.zim_answer.proofs.GivesLemmas.{Stops-goes, Stops-equal}
use Rattle.zim_answer.proofs.GoesLemmas.{goes_next, goes_done}
use Rattle.zim_answer.specs.Answer.{goes}
use Rattle.zim_sets.proofs.FirstLaws.{listed_made, listed_unlike}
use Rattle.zim_sets.specs.Causes.{set_cause}
use Rattle.zim_sets.specs.Insertion.{inserted}
use Rattle.zim_sets.specs.Listing.{set_listed}
use Rattle.zim_sets.proofs.listing.set_of_list.Goals as goal

pub returns-then-not-have_one_shape : goal.returns-then-not-have_one_shape
returns-then-not-have_one_shape c = listed_unlike c.args.tuples.now (sym c.have_one_shape.ensures ∙ c.if-not-have_one_shape.true)

pub returns-in_err-insert : goal.returns-in_err-insert
returns-in_err-insert c =
    let p = err_from_is_err_and c.from_residual-in_err-insert.result c.from_residual-in_err-insert.ensures.1 in
    let tuples = c.args.tuples.now in
    let cause = set_cause c.in_err-insert.field-0.0 in
    let stops = Stops-equal (inserted c.loop-tuple.made c.in_ok-copy.field-0) (inserted c.loop-tuple.made c.tuple-item.result) cause (ap (inserted c.loop-tuple.made) c.in_ok-copy.ensures) c.in_err-insert.ensures.answer in
    let whole : goes inserted [] tuples ≡ set_listed tuples = listed_made tuples (sym c.have_one_shape.ensures ∙ c.if-not-have_one_shape.false) in
    rw (p.1, p.2) (Stops-goes inserted c.loop-tuple.made tuples c.loop-tuple.tuple-index c.tuple-item.result cause (set_listed tuples) c.loop-tuple-test.true (sym c.tuple-item.is) stops (c.loop-tuple.invariant ∙ whole))

pub loop-tuple-preserved : goal.loop-tuple-preserved
loop-tuple-preserved c =
    let tuples = c.args.tuples.now in
    goes_next inserted c.loop-tuple.made c.insert.new.self tuples c.loop-tuple.tuple-index c.tuple-item.result (goes inserted [] tuples) c.loop-tuple-test.true (sym c.tuple-item.is) (ap (inserted c.loop-tuple.made) (sym c.in_ok-copy.ensures) ∙ c.in_ok-insert.ensures.answer) c.loop-tuple.invariant

pub returns : goal.returns
returns c =
    let tuples = c.args.tuples.now in
    let whole : goes inserted [] tuples ≡ set_listed tuples = listed_made tuples (sym c.have_one_shape.ensures ∙ c.if-not-have_one_shape.false) in
    goes_done inserted c.loop-tuple.made tuples c.loop-tuple.tuple-index (set_listed tuples) c.loop-tuple-test.false (c.loop-tuple.invariant ∙ whole)
