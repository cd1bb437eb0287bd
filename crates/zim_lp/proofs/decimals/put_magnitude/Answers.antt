-- The magnitude is short too, and its digits are what was written of the buffer.
use Rattle.std.proofs.Common.{IsTrue, sym, subst}
use Rattle.zim_rational.specs.Rational.{Rational}
use Rattle.zim_decimal.specs.Short as decimal
use Rattle.zim_lp.proofs.Numbers.{magnitude_short}
use Rattle.zim_lp.proofs.decimals.put_magnitude.Goals as goal

pub write_short-end-requires : goal.write_short-end-requires
write_short-end-requires g c =
    subst (λ (q : Rational). IsTrue (decimal.is_short q)) (sym c.magnitude.ensures) (magnitude_short c.args.number c.requires)
