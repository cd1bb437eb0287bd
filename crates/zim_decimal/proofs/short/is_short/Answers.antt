-- The denominator that is read is the number's own.
use Rattle.std.proofs.Common.{ap, ◌%◌, nat_eq, unsigned_abs}
use Rattle.zim_decimal.specs.Short.{is_short, scale}
use Rattle.zim_decimal.proofs.ShortLemmas.{denom_read}
use Rattle.zim_decimal.proofs.short.is_short.Goals as goal

pub returns : goal.returns
unfolding is_short
returns c =
    ap
    (λ d. nat_eq (scale % unsigned_abs d) 0)
    (denom_read c.args.a c.denom.result c.denom.ensures.value c.denom.ensures.bound)
