-- 2 is below 8.
use Rattle.std.proofs.Common.{pos, arith, sym, subst₂}
use Rattle.std.proofs.lemmas.Int.{ints}
use Rattle.zim_rational.specs.Rational.{Rational, IsBelow}
use Rattle.zim_rational.proofs.Whole.{whole_below}
use Rattle.zim_rows.proofs.tests.a_third_makes_the_factor_three.Goals as goal

pub add_range-requires-clause-below : goal.add_range-requires-clause-below
add_range-requires-clause-below g c =
    subst₂ (λ (a b : Rational). IsBelow a b) (sym c.whole.ensures) (sym c.whole-2.ensures) ((whole_below (pos 2) (pos 8)).1 (omega (arith, ints)))
