-- Powers of 0 and 1 stay, and a base from 2 up passes the limit within 127 factors.
use Rattle.std.proofs.Common.{arith, sym}
use Rattle.std.proofs.Common.{not-le_of_lt}
use Rattle.zim_fraction.proofs.PowerLemmas.{power_small, power_large}
use Rattle.zim_fraction.proofs.powers.power_within.Goals as goal

pub returns-else-k-eq0 : goal.returns-else-k-eq0
returns-else-k-eq0 c =
    let same = power_small c.args.b c.args.k c.if-b-le1.true c.if-k-eq0.false in (omega arith, sym same)

pub returns-then-k-ge127 : goal.returns-then-k-ge127
returns-then-k-ge127 c =
    not-le_of_lt (power_large c.args.b c.args.k c.if-b-le1.false c.if-k-ge127.true)
