-- What is left of the numbers by the two divisors across is the product's lowest terms, of which one may pass the limit.
use Rattle.std.proofs.Common.{ℕ, ◌≤◌, ◌∙◌, refl, sym, subst}
use Rattle.zim_fraction.specs.Limit.{limit}
use Rattle.zim_rational.proofs.Parts.{lowest_from, ratio_from}
use Rattle.zim_fraction.proofs.PartLaws.{wrapped, times_has}
use Rattle.zim_fraction.proofs.AnswerLaws.{product_ok, product_past, product_whole, number_size_false, number_denom_false}
use Rattle.zim_fraction.proofs.product.mul.Goals as goal

pub returns-in-Some-clause-answer : goal.returns-in-Some-clause-answer
returns-in-Some-clause-answer c =
    product_whole c.args.a c.args.b c.whole.result c.in-Some.n _ (wrapped c.in-Some.n _ refl c.in-Some.ensures.bound) c.in-Some.ensures.bound c.in-Some.ensures.value c.whole.ensures

pub returns-in-None-clause-answer : goal.returns-in-None-clause-answer
returns-in-None-clause-answer c =
    product_past c.args.a c.args.b (number_size_false _ _ _ _ (times_has c.args.a c.args.b _ _ _ _ _ _ _ _ _ _ (wrapped _ _ c.parts-x.ensures.numer c.parts-x.ensures.numer_bound) c.parts-x.ensures.denom (wrapped _ _ c.parts-y.ensures.numer c.parts-y.ensures.numer_bound) c.parts-y.ensures.denom c.unsigned_abs-p.ensures.value c.unsigned_abs-r.ensures.value c.common_divisor-g.ensures.value c.common_divisor-h.ensures.value refl refl) c.in-None.ensures)

pub returns-in-None-product_within-clause-answer : goal.returns-in-None-product_within-clause-answer
returns-in-None-product_within-clause-answer c =
    product_past c.args.a c.args.b (number_denom_false _ _ _ _ (times_has c.args.a c.args.b _ _ _ _ _ _ _ _ _ _ (wrapped _ _ c.parts-x.ensures.numer c.parts-x.ensures.numer_bound) c.parts-x.ensures.denom (wrapped _ _ c.parts-y.ensures.numer c.parts-y.ensures.numer_bound) c.parts-y.ensures.denom c.unsigned_abs-p.ensures.value c.unsigned_abs-r.ensures.value c.common_divisor-g.ensures.value c.common_divisor-h.ensures.value refl refl) c.in-None-product_within.ensures)

pub of_lowest-requires-clause-lowest : goal.of_lowest-requires-clause-lowest
of_lowest-requires-clause-lowest c =
    lowest_from _ _ _ (times_has c.args.a c.args.b _ _ _ _ _ _ _ _ _ _ (wrapped _ _ c.parts-x.ensures.numer c.parts-x.ensures.numer_bound) c.parts-x.ensures.denom (wrapped _ _ c.parts-y.ensures.numer c.parts-y.ensures.numer_bound) c.parts-y.ensures.denom c.unsigned_abs-p.ensures.value c.unsigned_abs-r.ensures.value c.common_divisor-g.ensures.value c.common_divisor-h.ensures.value c.in-Some-product_within.ensures.1 c.in-Some-product_within-2.ensures.1)

pub returns-clause-answer : goal.returns-clause-answer
returns-clause-answer c =
    product_ok
    c.args.a
    c.args.b
    c.of_lowest.result
    _
    _
    _
    (times_has c.args.a c.args.b _ _ _ _ _ _ _ _ _ _ (wrapped _ _ c.parts-x.ensures.numer c.parts-x.ensures.numer_bound) c.parts-x.ensures.denom (wrapped _ _ c.parts-y.ensures.numer c.parts-y.ensures.numer_bound) c.parts-y.ensures.denom c.unsigned_abs-p.ensures.value c.unsigned_abs-r.ensures.value c.common_divisor-g.ensures.value c.common_divisor-h.ensures.value c.in-Some-product_within.ensures.1 c.in-Some-product_within-2.ensures.1)
    (subst (λ (n : ℕ). n ≤ limit) (sym c.in-Some-product_within.ensures.1) c.in-Some-product_within.ensures.0)
    (subst (λ (n : ℕ). n ≤ limit) (sym c.in-Some-product_within-2.ensures.1) c.in-Some-product_within-2.ensures.0)
    c.of_lowest.ensures

pub returns-clause-ok : goal.returns-clause-ok
returns-clause-ok c =
    c.of_lowest.ensures ∙ ratio_from _ _ _ (times_has c.args.a c.args.b _ _ _ _ _ _ _ _ _ _ (wrapped _ _ c.parts-x.ensures.numer c.parts-x.ensures.numer_bound) c.parts-x.ensures.denom (wrapped _ _ c.parts-y.ensures.numer c.parts-y.ensures.numer_bound) c.parts-y.ensures.denom c.unsigned_abs-p.ensures.value c.unsigned_abs-r.ensures.value c.common_divisor-g.ensures.value c.common_divisor-h.ensures.value c.in-Some-product_within.ensures.1 c.in-Some-product_within-2.ensures.1)
