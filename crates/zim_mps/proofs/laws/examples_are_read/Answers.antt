-- Each text is read as its lines say.
use Rattle.std.proofs.Common.{refl}
use Rattle.zim_rational.specs.Gcd.{gcd, euclid}
use Rattle.zim_rational.specs.Rational.{whole, ratio, zero, plus, negate, at_most, below}
use Rattle.zim_decimal.specs.Reading.{number_of_text}
use Rattle.zim_mps.proofs.laws.examples_are_read.Goals as goal

pub returns : goal.returns
unfolding number_of_text whole ratio zero plus negate at_most below gcd euclid
returns c = record {
  range_from_its_right_side = refl;
  each_kind_of_row = refl;
  upper_end_alone = refl;
  both_ends_in_any_order = refl;
  infinite_lower_end = refl;
  integer_columns = refl;
  column_in_two_places = refl;
  entry_said_twice = refl;
  lower_end_said_twice = refl;
  infinite_end_said_twice = refl;
  upper_end_said_twice = refl;
  right_side_said_twice = refl;
  range_said_twice = refl;
  upper_end_below_zero = refl;
  integer_column_without_end = refl;
  range_of_an_equality = refl;
  two_objectives = refl;
}
