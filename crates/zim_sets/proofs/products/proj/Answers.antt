use Rattle.std.proofs.Common.{◌≡◌, ◌∙◌, [], List, Ok, Result, sym, ap}
use Rattle.std.proofs.lemmas.Result.{err_from_is_err_and}
use Rattle.zim_answer.proofs.GivesLemmas.{Stops-goes, Stops-equal}
use Rattle.zim_answer.proofs.GoesLemmas.{goes_next, goes_done}
use Rattle.zim_answer.specs.Answer.{goes}
use Rattle.zim_sets.proofs.FirstLaws.{proj_made}
use Rattle.zim_sets.specs.Causes.{set_cause}
use Rattle.zim_sets.specs.Choices.{items_at}
use Rattle.zim_sets.specs.Insertion.{inserted}
use Rattle.zim_sets.specs.Products.{projected}
use Rattle.zim_sets.proofs.products.proj.Goals as goal
use Rattle.zim_fault.specs.declared.kinds.Kind.{Kind}
use Rattle.zim_tuples.specs.declared.elements.Elem.{Elem}

pub returns-in_err-insert : goal.returns-in_err-insert
returns-in_err-insert c =
    let p = err_from_is_err_and c.from_residual-in_err-insert.result c.from_residual-in_err-insert.ensures.1 in
    let a = c.args.a.now in
    let positions = c.args.positions.now in
    let step : List (List Elem) → List Elem → Result (List (List Elem)) Kind = λ made tuple. inserted made (items_at tuple positions) in
    let cause = set_cause c.in_err-insert.field-0.0 in
    let item : c.in_ok-copied_at.field-0 ≡ items_at c.tuple-item.result positions = c.in_ok-copied_at.ensures ∙ ap (λ (tuple : List Elem). items_at tuple positions) c.as_slice.ensures in
    let stops = Stops-equal (inserted c.loop-tuple.made c.in_ok-copied_at.field-0) (step c.loop-tuple.made c.tuple-item.result) cause (ap (inserted c.loop-tuple.made) item) c.in_err-insert.ensures.answer in
    let whole : goes step [] c.as_slice-tuple-items.result.now ≡ Ok (projected a positions) = rw c.as_slice-tuple-items.ensures.value (proj_made a positions c.as_slice-tuple-items.ensures.set) in
    rw (p.1, p.2) (Stops-goes step c.loop-tuple.made c.as_slice-tuple-items.result.now c.loop-tuple.tuple-index c.tuple-item.result cause (Ok (projected a positions)) c.loop-tuple-test.true (sym c.tuple-item.is) stops (c.loop-tuple.invariant ∙ whole))

pub loop-tuple-preserved : goal.loop-tuple-preserved
loop-tuple-preserved c =
    let positions = c.args.positions.now in
    let step : List (List Elem) → List Elem → Result (List (List Elem)) Kind = λ made tuple. inserted made (items_at tuple positions) in
    let item : c.in_ok-copied_at.field-0 ≡ items_at c.tuple-item.result positions = c.in_ok-copied_at.ensures ∙ ap (λ (tuple : List Elem). items_at tuple positions) c.as_slice.ensures in
    goes_next step c.loop-tuple.made c.insert.new.self c.as_slice-tuple-items.result.now c.loop-tuple.tuple-index c.tuple-item.result (goes step [] c.as_slice-tuple-items.result.now) c.loop-tuple-test.true (sym c.tuple-item.is) (ap (inserted c.loop-tuple.made) (sym item) ∙ c.in_ok-insert.ensures.answer) c.loop-tuple.invariant

pub returns : goal.returns
returns c =
    let a = c.args.a.now in
    let positions = c.args.positions.now in
    let step : List (List Elem) → List Elem → Result (List (List Elem)) Kind = λ made tuple. inserted made (items_at tuple positions) in
    let whole : goes step [] c.as_slice-tuple-items.result.now ≡ Ok (projected a positions) = rw c.as_slice-tuple-items.ensures.value (proj_made a positions c.as_slice-tuple-items.ensures.set) in
    goes_done step c.loop-tuple.made c.as_slice-tuple-items.result.now c.loop-tuple.tuple-index (Ok (projected a positions)) c.loop-tuple-test.false (c.loop-tuple.invariant ∙ whole)
