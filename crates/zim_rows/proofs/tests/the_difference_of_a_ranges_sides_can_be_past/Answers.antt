-- -(2^127 - 1) is below 0 and below 1.
use Rattle.std.proofs.Common.{pos, negsuc, arith, sym, subst₂}
use Rattle.std.proofs.lemmas.Int.{ints}
use Rattle.zim_rational.specs.Rational.{Rational, IsBelow}
use Rattle.zim_rational.proofs.Whole.{whole_below}
use Rattle.zim_rows.proofs.tests.the_difference_of_a_ranges_sides_can_be_past.Goals as goal

pub add_range-requires-clause-below : goal.add_range-requires-clause-below
add_range-requires-clause-below g c =
    subst₂ (λ (a b : Rational). IsBelow a b) (sym c.whole.ensures) (sym c.whole-2.ensures) ((whole_below (negsuc 170141183460469231731687303715884105726) (pos 0)).1 (omega (arith, ints)))

pub add_range-requires-2-clause-below : goal.add_range-requires-2-clause-below
add_range-requires-2-clause-below g c =
    subst₂ (λ (a b : Rational). IsBelow a b) (sym c.whole-3.ensures) (sym c.whole-4.ensures) ((whole_below (negsuc 170141183460469231731687303715884105726) (pos 1)).1 (omega (arith, ints)))
