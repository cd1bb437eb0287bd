-- Of a number and 0 the greatest common divisor is the number.
use Rattle.zim_fraction.proofs.DivisorLemmas.{gcd_with_zero}
use Rattle.zim_fraction.proofs.divisor.gcd.Goals as goal

pub returns-then-b-eq0 : goal.returns-then-b-eq0
returns-then-b-eq0 c = gcd_with_zero c.args.a c.args.b c.requires.first c.ranges.a c.requires.second c.if-b-eq0.true
