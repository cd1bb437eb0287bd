-- A power below 0 is that of the reciprocal above 0.
use Rattle.std.proofs.Common.{ap, ◌∙◌}
use Rattle.std.specs.Int.{w128}
use Rattle.std.proofs.lemmas.Int.{to_z-of_z}
use Rattle.zim_rational.specs.Rounding.{product_of}
use Rattle.zim_fraction.specs.Answers.{number_answer}
use Rattle.zim_fraction.proofs.AnswerLaws.{zero_from_parts, some_from_parts}
use Rattle.zim_fraction.proofs.PowerLemmas.{number_if_ok, power_up, power_down, power_answer_up, power_answer_some, power_answer_none}
use Rattle.zim_fraction.proofs.powers.power.Goals as goal

pub returns-then-e-ge0-clause-answer : goal.returns-then-e-ge0-clause-answer
returns-then-e-ge0-clause-answer c =
    c.raised.ensures ∙ ap number_answer (power_up c.args.a c.args.e _ _ (to_z-of_z w128 c.args.e c.ranges.e) c.if-e-ge0.true c.unsigned_abs.ensures.value) ∙ power_answer_up c.args.a c.args.e _ (to_z-of_z w128 c.args.e c.ranges.e) c.if-e-ge0.true

pub returns-then-e-ge0-clause-ok : goal.returns-then-e-ge0-clause-ok
returns-then-e-ge0-clause-ok c =
    number_if_ok _ c.raised.result (c.raised.ensures ∙ ap number_answer (power_up c.args.a c.args.e _ _ (to_z-of_z w128 c.args.e c.ranges.e) c.if-e-ge0.true c.unsigned_abs.ensures.value))

pub returns-then-numer-eq0-clause-answer : goal.returns-then-numer-eq0-clause-answer
returns-then-numer-eq0-clause-answer c =
    power_answer_none
    c.args.a
    c.args.e
    _
    (zero_from_parts c.args.a c.numer.result c.numer.ensures.value c.numer.ensures.bound c.if-numer-eq0.true)
    (to_z-of_z w128 c.args.e c.ranges.e)
    c.if-e-ge0.false

pub reciprocal-requires : goal.reciprocal-requires
reciprocal-requires c = some_from_parts c.args.a c.numer.result c.numer.ensures.value c.if-numer-eq0.false

pub returns-clause-answer : goal.returns-clause-answer
returns-clause-answer c =
    let some = some_from_parts c.args.a c.numer.result c.numer.ensures.value c.if-numer-eq0.false in
    c.raised-2.ensures ∙ ap (λ b. number_answer (product_of b c.unsigned_abs-2.result)) c.reciprocal.ensures ∙ ap number_answer (power_down c.args.a c.args.e _ _ some (to_z-of_z w128 c.args.e c.ranges.e) c.if-e-ge0.false c.unsigned_abs-2.ensures.value) ∙ power_answer_some c.args.a c.args.e some

pub returns-clause-ok : goal.returns-clause-ok
returns-clause-ok c =
    let some = some_from_parts c.args.a c.numer.result c.numer.ensures.value c.if-numer-eq0.false in
    number_if_ok _ c.raised-2.result (c.raised-2.ensures ∙ ap (λ b. number_answer (product_of b c.unsigned_abs-2.result)) c.reciprocal.ensures ∙ ap number_answer (power_down c.args.a c.args.e _ _ some (to_z-of_z w128 c.args.e c.ranges.e) c.if-e-ge0.false c.unsigned_abs-2.ensures.value))
