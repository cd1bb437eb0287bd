-- Each digit is one more behind those that were read.
use Rattle.std.proofs.Common.{arith, refl}
use Rattle.zim_decimal.proofs.DigitLaws.{nothing_counted, counted_next}
use Rattle.zim_decimal.proofs.digits.read_digits.Goals as goal

pub loop-digit-init : goal.loop-digit-init
loop-digit-init c = record { counted = nothing_counted; zeros = omega arith }

pub loop-decimal-preserved : goal.loop-decimal-preserved
loop-decimal-preserved c = record {
  counted =
      counted_next
      c.args.whole.now
      c.args.behind.now
      c.loop-decimal.value
      c.with_digit-read-in-loop-decimal.result.value
      c.loop-decimal.zeros
      c.with_digit-read-in-loop-decimal.result.zeros
      c.loop-decimal.decimal-index
      _
      c.loop-decimal-test.true
      refl
      c.with_digit-read-in-loop-decimal.ensures.counted
      c.loop-decimal.invariant.counted;
  zeros = omega arith;
}
