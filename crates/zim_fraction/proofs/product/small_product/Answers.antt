-- The product of two numbers below 2^63 fits, and is the product of the fractions.
use Rattle.std.proofs.Common.{refl, to_z, of_z}
use Rattle.std.specs.Int.{w128}
use Rattle.zim_fraction.proofs.PartLaws.{wrapped}
use Rattle.zim_fraction.proofs.WholeLemmas.{product_fits, product_bound, product_is}
use Rattle.zim_fraction.proofs.product.small_product.Goals as goal

pub overflow_mul-result : goal.overflow_mul-result
overflow_mul-result c = product_fits (to_z w128 (of_z w128 c.parts-x.result.0)) (to_z w128 (of_z w128 c.parts-y.result.0)) (c.if-is_small.ensures refl) (c.if-is_small-2.ensures refl)

pub returns-then-is_small-2-clause-bound : goal.returns-then-is_small-2-clause-bound
returns-then-is_small-2-clause-bound c =
    product_bound (to_z w128 (of_z w128 c.parts-x.result.0)) (to_z w128 (of_z w128 c.parts-y.result.0)) (c.if-is_small.ensures refl) (c.if-is_small-2.ensures refl)

pub returns-then-is_small-2-clause-value : goal.returns-then-is_small-2-clause-value
returns-then-is_small-2-clause-value c =
    product_is
    c.args.a
    c.args.b
    (to_z w128 (of_z w128 c.parts-x.result.0))
    (to_z w128 (of_z w128 c.parts-y.result.0))
    _
    _
    (wrapped _ _ c.parts-x.ensures.numer c.parts-x.ensures.numer_bound)
    c.parts-x.ensures.denom
    c.if-c-eq1.true
    (wrapped _ _ c.parts-y.ensures.numer c.parts-y.ensures.numer_bound)
    c.parts-y.ensures.denom
    c.if-d-eq1.true
    (c.if-is_small.ensures refl)
    (c.if-is_small-2.ensures refl)
