-- A power of ten above the limit, and one that fits.
use Rattle.std.proofs.Common.{arith, ◌+◌}
use Rattle.zim_decimal.proofs.DigitLaws.{many_zeros, few_zeros}
use Rattle.zim_decimal.proofs.digits.appended.Goals as goal

pub returns-then-zeros-ge38 : goal.returns-then-zeros-ge38
returns-then-zeros-ge38 c = many_zeros c.args.value c.args.zeros c.args.digit c.if-value-eq0.false c.if-zeros-ge38.true

pub pow-requires : goal.pow-requires
pow-requires c = few_zeros (c.args.zeros + 1) (omega (arith, c.if-zeros-ge38.false))
