-- A quotient is the product with the reciprocal, and is past where that is.
use Rattle.std.proofs.Common.{◌≡◌, Ok, Err, subst, ap, ◌∙◌}
use Rattle.zim_rational.specs.Rational.{Rational, times, over}
use Rattle.zim_fraction.specs.Answers.{product_answer}
use Rattle.zim_fraction.proofs.AnswerLaws.{zero_from_parts, some_from_parts, quotient_answer_none, quotient_ok, quotient_past}
use Rattle.zim_fraction.proofs.product.div.Goals as goal

pub returns-then-numer-eq0-clause-answer : goal.returns-then-numer-eq0-clause-answer
returns-then-numer-eq0-clause-answer c =
    quotient_answer_none c.args.a c.args.b (zero_from_parts c.args.b c.numer.result c.numer.ensures.value c.numer.ensures.bound c.if-numer-eq0.true)

pub reciprocal-requires : goal.reciprocal-requires
reciprocal-requires c = some_from_parts c.args.b c.numer.result c.numer.ensures.value c.if-numer-eq0.false

pub returns-in-Ok-clause-answer : goal.returns-in-Ok-clause-answer
returns-in-Ok-clause-answer c =
    quotient_ok
    c.args.a
    c.args.b
    c.in-Ok.q
    (some_from_parts c.args.b c.numer.result c.numer.ensures.value c.if-numer-eq0.false)
    (subst (λ (r : Rational). Ok c.in-Ok.q ≡ product_answer c.args.a r) c.reciprocal.ensures c.in-Ok.ensures.answer)

pub returns-in-Ok-clause-ok : goal.returns-in-Ok-clause-ok
unfolding over
returns-in-Ok-clause-ok c = c.in-Ok.ensures.ok ∙ ap (times c.args.a) c.reciprocal.ensures

pub returns-in-Err-clause-answer : goal.returns-in-Err-clause-answer
returns-in-Err-clause-answer c =
    quotient_past
    c.args.a
    c.args.b
    c.in-Err.field-0
    (some_from_parts c.args.b c.numer.result c.numer.ensures.value c.if-numer-eq0.false)
    (subst (λ (r : Rational). Err c.in-Err.field-0 ≡ product_answer c.args.a r) c.reciprocal.ensures c.in-Err.ensures.answer)
