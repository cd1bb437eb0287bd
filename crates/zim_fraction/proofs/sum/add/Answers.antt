-- The sum is past where a part of the calculation over the common denominator is, else it is the sum of the fractions.
use Rattle.std.proofs.Common.{◌∙◌, ap, refl}
use Rattle.zim_rational.specs.Rational.{whole}
use Rattle.zim_fraction.proofs.PartLaws.{wrapped}
use Rattle.zim_fraction.proofs.SumLaws.{sum_ok, sum_past, pair_sum, pair_bounds}
use Rattle.zim_fraction.proofs.sum.add.Goals as goal

pub returns-in-Some-clause-answer : goal.returns-in-Some-clause-answer
returns-in-Some-clause-answer c =
    sum_ok c.args.a c.args.b c.whole.result c.in-Some.ensures.within (c.whole.ensures ∙ ap whole (wrapped c.in-Some.n _ refl c.in-Some.ensures.bound) ∙ c.in-Some.ensures.value)

pub reduced-requires : goal.reduced-requires
reduced-requires c =
    let bounds = pair_bounds c.args.a c.args.b _ _ c.in-Some-common_sum.ensures.0 c.in-Some-common_sum.ensures.1 in
    record { positive = bounds.0; numer_bound = bounds.1; denom_bound = bounds.2 }

pub returns-in-Some-common_sum : goal.returns-in-Some-common_sum
returns-in-Some-common_sum c =
    let sum =
    pair_sum c.args.a c.args.b c.reduced.result _ _ c.in-Some-common_sum.ensures.0 c.in-Some-common_sum.ensures.1 c.reduced.ensures in
    record { answer = sum_ok c.args.a c.args.b c.reduced.result c.in-Some-common_sum.ensures.0 sum; ok = sum }

pub returns-in-None-clause-answer : goal.returns-in-None-clause-answer
returns-in-None-clause-answer c = sum_past c.args.a c.args.b c.in-None.ensures
