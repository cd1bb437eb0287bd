-- The sum of two numbers below 2^63 fits, is the sum of the fractions, and none of its parts passes the limit.
use Rattle.std.proofs.Common.{refl, to_z, of_z}
use Rattle.std.specs.Int.{w128}
use Rattle.zim_fraction.proofs.PartLaws.{wrapped}
use Rattle.zim_fraction.proofs.WholeLemmas.{sum_is}
use Rattle.zim_fraction.proofs.SumLaws.{small_sum_within}
use Rattle.zim_fraction.proofs.sum.small_sum.Goals as goal

pub returns-then-is_small-2-clause-value : goal.returns-then-is_small-2-clause-value
returns-then-is_small-2-clause-value c =
    sum_is
    c.args.a
    c.args.b
    (to_z w128 (of_z w128 c.parts-x.result.0))
    (to_z w128 (of_z w128 c.parts-y.result.0))
    _
    _
    (wrapped _ _ c.parts-x.ensures.numer c.parts-x.ensures.numer_bound)
    c.parts-x.ensures.denom
    c.if-c-eq1.true
    (wrapped _ _ c.parts-y.ensures.numer c.parts-y.ensures.numer_bound)
    c.parts-y.ensures.denom
    c.if-d-eq1.true
    (c.if-is_small.ensures refl)
    (c.if-is_small-2.ensures refl)

pub returns-then-is_small-2-clause-within : goal.returns-then-is_small-2-clause-within
returns-then-is_small-2-clause-within c =
    small_sum_within
    c.args.a
    c.args.b
    (to_z w128 (of_z w128 c.parts-x.result.0))
    (to_z w128 (of_z w128 c.parts-y.result.0))
    _
    _
    (wrapped _ _ c.parts-x.ensures.numer c.parts-x.ensures.numer_bound)
    c.parts-x.ensures.denom
    c.if-c-eq1.true
    (wrapped _ _ c.parts-y.ensures.numer c.parts-y.ensures.numer_bound)
    c.parts-y.ensures.denom
    c.if-d-eq1.true
    (c.if-is_small.ensures refl)
    (c.if-is_small-2.ensures refl)
