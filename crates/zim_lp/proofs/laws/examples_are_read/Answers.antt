-- Each text is read as its words say.
use Rattle.std.proofs.Common.{refl}
use Rattle.zim_rational.specs.Gcd.{gcd, euclid}
use Rattle.zim_rational.specs.Rational.{whole, ratio, zero, negate}
use Rattle.zim_lp.proofs.laws.examples_are_read.Goals as goal

pub returns : goal.returns
unfolding whole ratio zero negate gcd euclid
returns c = record {
  default_ends = refl;
  lower_end_alone = refl;
  both_ends_anew = refl;
  later_bound = refl;
  each_part = refl;
  no_end = refl;
  words_behind_the_end = refl;
  section_word_as_name = refl;
  free_as_name = refl;
  no_coefficient = refl;
  no_name_under_generals = refl;
  no_digit_behind_the_point = refl;
  no_digit_before_the_point = refl;
  upper_end_alone = refl;
}
