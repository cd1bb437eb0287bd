-- An element more, a field that gives none, and the end.
use Rattle.std.proofs.Common.{[], ◌∷◌, ◌++◌, Ok, ap, sym, refl, ◌∙◌}
use Rattle.std.proofs.lemmas.Result.{err_from_is_err_and}
use Rattle.zim_answer.specs.Answer.{◌>>=◌}
use Rattle.zim_answer.proofs.GivesLemmas.{Stops-bind}
use Rattle.zim_answer.proofs.GoesLemmas.{goes_done}
use Rattle.zim_read.specs.Causes.{line_cause}
use Rattle.zim_read.specs.Private.{lent}
use Rattle.zim_read.specs.Rows.{with_element, elements_at}
use Rattle.zim_read.proofs.LoopLemmas.{next_at, stop_at}
use Rattle.zim_read.proofs.elements.elements_at.Goals as goal

pub returns-in_err-element_at : goal.returns-in_err-element_at
returns-in_err-element_at c =
    let p = err_from_is_err_and c.from_residual.result c.from_residual.ensures.1 in
    rw (p.1, p.2)
    (stop_at (with_element (lent c.args.line.now)) c.loop-field.elements c.args.fields.now c.loop-field.field-index _ _ (line_cause c.in_err-element_at.field-0.0) (elements_at (lent c.args.line.now) c.args.fields.now) c.loop-field-test.true refl
    (Stops-bind _ (λ element. Ok (c.loop-field.elements ++ element ∷ [])) (line_cause c.in_err-element_at.field-0.0) c.in_err-element_at.ensures) c.loop-field.invariant)

pub loop-field-preserved : goal.loop-field-preserved
loop-field-preserved c =
    next_at (with_element (lent c.args.line.now)) c.loop-field.elements c.push.new.self c.args.fields.now c.loop-field.field-index _ _ (elements_at (lent c.args.line.now) c.args.fields.now) c.loop-field-test.true refl
    (ap (λ answer. answer >>= λ element. Ok (c.loop-field.elements ++ element ∷ [])) c.in_ok-element_at.ensures ∙ ap Ok (sym c.in_ok-push.ensures.ok)) c.loop-field.invariant

pub returns : goal.returns
returns c =
    goes_done (with_element (lent c.args.line.now)) c.loop-field.elements c.args.fields.now c.loop-field.field-index (elements_at (lent c.args.line.now) c.args.fields.now) c.loop-field-test.false c.loop-field.invariant
