-- Each product is the next factorial, and where one is past, n! is.
use Rattle.std.proofs.Common.{ap, ◌∙◌, arith}
use Rattle.zim_functions.proofs.FactorialLemmas.{no_factors, no_factors_within, counted, next_is, next_past}
use Rattle.zim_rational.specs.Rational.{whole}
use Rattle.zim_functions.proofs.numbers.factorial_within.Goals as goal

pub loop-k-init : goal.loop-k-init
loop-k-init c = record {
  product = c.one-product.ensures ∙ no_factors;
  within = no_factors_within;
}

pub returns-in-Err : goal.returns-in-Err
returns-in-Err c =
    next_past c.args.n c.loop-k.k c.loop-k.product c.whole.result c.in-Err.field-0 (omega (arith, c.loop-k-test.true)) c.loop-k.invariant.product (c.whole.ensures ∙ ap whole (counted c.args.n c.loop-k.k c.requires c.loop-k-test.true)) c.in-Err.ensures.answer

pub loop-k-preserved : goal.loop-k-preserved
loop-k-preserved c =
    let next = next_is c.loop-k.k c.loop-k.product c.whole.result c.in-Ok.next c.loop-k.invariant.product (c.whole.ensures ∙ ap whole (counted c.args.n c.loop-k.k c.requires c.loop-k-test.true)) c.in-Ok.ensures.answer in
    record {
      product = next.0;
      within = next.1;
    }
