-- Each text is read as its lines say.
use Rattle.std.proofs.Common.{refl}
use Rattle.zim_rational.specs.Gcd.{gcd, euclid}
use Rattle.zim_table.proofs.laws.examples_are_read.Goals as goal

pub returns : goal.returns
unfolding gcd euclid
returns c = record {
  two_columns = refl;
  all_kinds_of_lines = refl;
  long_factors = refl;
  factor_zero = refl;
  negative_factor = refl;
  another_factor = refl;
  positive_where_maximised = refl;
  negative_where_minimised = refl;
  negative_without_objective = refl;
  crossed_columns = refl;
  column_left_out = refl;
  column_said_twice = refl;
  helper_left_out = refl;
  first_column_left_out = refl;
  priority_of_another_column = refl;
  priority_said_twice = refl;
  start_value_said_twice = refl;
  priority_of_a_helper = refl;
  row_left_out = refl;
  first_row_left_out = refl;
  place_zero = refl;
  row_factor_zero = refl;
  negative_row_factor = refl;
  zero_before_a_digit = refl;
  zero_before_a_factor = refl;
  negative_zero = refl;
  fraction_not_in_lowest_terms = refl;
  fraction_over_one = refl;
  rows_before_columns = refl;
  two_offsets = refl;
  behind_the_end = refl;
  last_line_not_ended = refl;
}
