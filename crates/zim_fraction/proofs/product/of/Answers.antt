-- What is left of the two numbers by their greatest common divisor is the quotient's lowest terms.
use Rattle.std.proofs.Common.{◌∙◌}
use Rattle.std.specs.Int.{w128}
use Rattle.std.proofs.lemmas.Int.{to_z-of_z}
use Rattle.zim_rational.proofs.Parts.{lowest_from, ratio_from}
use Rattle.zim_fraction.proofs.PartLaws.{over_has}
use Rattle.zim_fraction.proofs.AnswerLaws.{zero_from_bits, some_from_bits, ratio_answer_none, ratio_answer_some, number_ok, number_past, number_size_false, number_denom_false}
use Rattle.zim_fraction.proofs.product.of.Goals as goal
use Rattle.zim_fraction.proofs.product.of.Goals.{else-p-g-le-LIMIT-via-then-p-g-le-LIMIT+else-r-g-le-LIMIT, else-p-g-le-LIMIT-via-else-p-g-le-LIMIT}
use native.Mathlib.Nat.{not-le_of_lt}

pub returns-then-d-eq0-clause-answer : goal.returns-then-d-eq0-clause-answer
returns-then-d-eq0-clause-answer c =
    ratio_answer_none c.args.n c.args.d (zero_from_bits c.args.d c.ranges.d c.if-d-eq0.true)

pub of_lowest-requires-clause-lowest : goal.of_lowest-requires-clause-lowest
of_lowest-requires-clause-lowest c =
    lowest_from _ _ _ (over_has c.args.n c.args.d _ _ _ _ _ (to_z-of_z w128 c.args.n c.ranges.n) (to_z-of_z w128 c.args.d c.ranges.d) c.unsigned_abs-p.ensures.value c.unsigned_abs-r.ensures.value c.common_divisor-g.ensures.value (some_from_bits c.args.d c.if-d-eq0.false))

pub returns-then-r-g-le-LIMIT-clause-answer : goal.returns-then-r-g-le-LIMIT-clause-answer
returns-then-r-g-le-LIMIT-clause-answer c =
    number_ok
    _
    c.of_lowest.result
    _
    _
    _
    (over_has c.args.n c.args.d _ _ _ _ _ (to_z-of_z w128 c.args.n c.ranges.n) (to_z-of_z w128 c.args.d c.ranges.d) c.unsigned_abs-p.ensures.value c.unsigned_abs-r.ensures.value c.common_divisor-g.ensures.value (some_from_bits c.args.d c.if-d-eq0.false))
    c.if-p-g-le-LIMIT.true
    c.if-r-g-le-LIMIT.true
    c.of_lowest.ensures
    ∙ ratio_answer_some c.args.n c.args.d (some_from_bits c.args.d c.if-d-eq0.false)

pub returns-then-r-g-le-LIMIT-clause-ok : goal.returns-then-r-g-le-LIMIT-clause-ok
returns-then-r-g-le-LIMIT-clause-ok c =
    c.of_lowest.ensures ∙ ratio_from _ _ _ (over_has c.args.n c.args.d _ _ _ _ _ (to_z-of_z w128 c.args.n c.ranges.n) (to_z-of_z w128 c.args.d c.ranges.d) c.unsigned_abs-p.ensures.value c.unsigned_abs-r.ensures.value c.common_divisor-g.ensures.value (some_from_bits c.args.d c.if-d-eq0.false))

pub returns-else-p-g-le-LIMIT-clause-answer : goal.returns-else-p-g-le-LIMIT-clause-answer
returns-else-p-g-le-LIMIT-clause-answer c =
    let parts =
    over_has c.args.n c.args.d _ _ _ _ _ (to_z-of_z w128 c.args.n c.ranges.n) (to_z-of_z w128 c.args.d c.ranges.d) c.unsigned_abs-p.ensures.value c.unsigned_abs-r.ensures.value c.common_divisor-g.ensures.value (some_from_bits c.args.d c.if-d-eq0.false) in
    number_past _ (elim c.else-p-g-le-LIMIT.branch [
      | else-p-g-le-LIMIT-via-then-p-g-le-LIMIT+else-r-g-le-LIMIT w ↦
          number_denom_false _ _ _ _ parts (not-le_of_lt w.if-r-g-le-LIMIT.false)
      | else-p-g-le-LIMIT-via-else-p-g-le-LIMIT w ↦
          number_size_false _ _ _ _ parts (not-le_of_lt w.if-p-g-le-LIMIT.false)
    ])
    ∙ ratio_answer_some c.args.n c.args.d (some_from_bits c.args.d c.if-d-eq0.false)
