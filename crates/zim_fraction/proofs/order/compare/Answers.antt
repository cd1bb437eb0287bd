-- Over one denominator the numerators decide, else the signs, else the products across.
use Rattle.zim_fraction.proofs.PartLaws.{wrapped}
use Rattle.zim_fraction.proofs.OrderLemmas.{over_one_denom, first_below, first_above, both_above, both_below}
use Rattle.zim_fraction.proofs.order.compare.Goals as goal

pub returns-then-c-d : goal.returns-then-c-d
returns-then-c-d c =
    over_one_denom c.args.a c.args.b c.cmp.result _ _ _ _ (wrapped _ _ c.parts-x.ensures.numer c.parts-x.ensures.numer_bound) (wrapped _ _ c.parts-y.ensures.numer c.parts-y.ensures.numer_bound) c.parts-x.ensures.denom c.parts-y.ensures.denom c.if-c-d.true c.cmp.ensures

pub returns-in-true-true : goal.returns-in-true-true
returns-in-true-true c =
    both_below c.args.a c.args.b c.compare_products.result _ _ _ _ _ _ (wrapped _ _ c.parts-x.ensures.numer c.parts-x.ensures.numer_bound) (wrapped _ _ c.parts-y.ensures.numer c.parts-y.ensures.numer_bound) c.parts-x.ensures.denom c.parts-y.ensures.denom c.unsigned_abs-in-true-true.ensures.value c.unsigned_abs.ensures.value c.in-true-true.is-0 c.in-true-true.is-1 c.compare_products.ensures

pub returns-in-true-false : goal.returns-in-true-false
returns-in-true-false c =
    first_below c.args.a c.args.b _ _ (wrapped _ _ c.parts-x.ensures.numer c.parts-x.ensures.numer_bound) (wrapped _ _ c.parts-y.ensures.numer c.parts-y.ensures.numer_bound) c.in-true-false.is-0 c.in-true-false.is-1

pub returns-in-false-true : goal.returns-in-false-true
returns-in-false-true c =
    first_above c.args.a c.args.b _ _ (wrapped _ _ c.parts-x.ensures.numer c.parts-x.ensures.numer_bound) (wrapped _ _ c.parts-y.ensures.numer c.parts-y.ensures.numer_bound) c.in-false-true.is-0 c.in-false-true.is-1

pub returns-in-false-false : goal.returns-in-false-false
returns-in-false-false c =
    both_above c.args.a c.args.b c.compare_products-in-false-false.result _ _ _ _ _ _ (wrapped _ _ c.parts-x.ensures.numer c.parts-x.ensures.numer_bound) (wrapped _ _ c.parts-y.ensures.numer c.parts-y.ensures.numer_bound) c.parts-x.ensures.denom c.parts-y.ensures.denom c.unsigned_abs-in-false-false.ensures.value c.unsigned_abs-in-false-false-2.ensures.value c.in-false-false.is-0 c.in-false-false.is-1 c.compare_products-in-false-false.ensures
