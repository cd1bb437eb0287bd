-- What an answer unfolds to compute an expression or a statement that is written out.
use Rattle.std.specs.Prelude.{⊤}
use Rattle.zim_answer.specs.Answer.{goes}
use Rattle.zim_decimal.specs.Literal.{before_others, without_last_zeros, scaled, value_answer, scaled_answer, literal_answer, field_answer}
use Rattle.zim_decimal.specs.Token.{is_mantissa, is_number_token, is_field}
use Rattle.zim_fraction.specs.Answers.{sum_answer, difference_answer, product_answer, number_answer, quotient_answer, power_answer}
use Rattle.zim_fraction.specs.Limit.{is_sum_within}
use Rattle.zim_functions.specs.Numbers.{product_to, is_natural, within_limit, factorial_answer, truncated, truncated_quotient, truncated_rest, stop_of, div_answer, mod_answer}
use Rattle.zim_meaning.specs.DataFiles.{request_of, set_of_rows}
use Rattle.zim_meaning.specs.Expressions.{component, tuple_of_parts, bare_name_value, indexed_name_value, item_value, call_value, chain_value, factorial_value, power_value, signed_value, comparison_value, member_value, not_value, truth_at, and_value, or_value, if_value, function_value, projection_value, members_value, tuples_value, span_value}
use Rattle.zim_meaning.specs.Loops.{passes, choices_among, choices_of, chosen_value, best_choice, gathered}
use Rattle.zim_meaning.specs.Operations.{values_added, values_subtracted, values_multiplied, values_operated, value_raised, values_compared, literal_value, value_signed, value_factorial, value_negated, extreme, component_of, part_of_text, word_applied, set_of_members, set_between, projected_at, projection, of_defined_kind}
use Rattle.zim_meaning.specs.Printing.{value_output, print_output, passes_check}
use Rattle.zim_meaning.specs.Statements.{chosen_values, given_to_index, listed_values, numbered_sets, set_made, table_values, values_of_rows, param_made}
use Rattle.zim_meaning.specs.Value.{calls_of_first}
use Rattle.zim_meaning.specs.World.{param_at, set_at}
use Rattle.zim_params.specs.Values.{value_at, value_inserted}
use Rattle.zim_rational.specs.Gcd.{euclid, gcd, lcm}
use Rattle.zim_rational.specs.Rational.{whole, ratio, zero, one, plus, negate, minus, times, reciprocal, over, at_most, below, rational_cmp, same, is_whole, total}
use Rattle.zim_rational.specs.Rounding.{floor, ceil, half, round, absolute, larger, smaller, product_of, power}
use Rattle.zim_read.specs.Lines.{without_return, ended_lines, behind_last_end, is_open_behind, before_comment, is_left_open, separated, line_fields, unquoted}
use Rattle.zim_read.specs.Rows.{element_of, value_element, is_short_line, with_fields, with_data_line, in_turn, line_taken, data_rows}
use Rattle.zim_read.specs.Templates.{after_blanks, is_blank_only, kind_of_letter, every_of, position_of, field_of, fields_spelled, in_angles, template_of}
use Rattle.zim_sets.specs.Choices.{choices, ways}
use Rattle.zim_sets.specs.Families.{family_of, subsets_of}
use Rattle.zim_sets.specs.Insertion.{sized, inserted}
use Rattle.zim_sets.specs.Listing.{set_listed}
use Rattle.zim_sets.specs.Operators.{of_alike, union_of, without_of, inter_of, symdiff_of}
use Rattle.zim_sets.specs.Products.{cross_of, firsts, projected}
use Rattle.zim_sets.specs.Ranges.{progression, range_count, range_of}
use Rattle.zim_tuples.specs.Environments.{element_named}

-- each definition that is computed with
unfoldable pub on_written_trees : ⊤
unfolding request_of set_of_rows component tuple_of_parts bare_name_value indexed_name_value item_value call_value chain_value factorial_value power_value signed_value comparison_value member_value not_value truth_at and_value or_value if_value function_value projection_value members_value tuples_value span_value passes choices_among choices_of chosen_value best_choice gathered values_added values_subtracted values_multiplied values_operated value_raised values_compared literal_value value_signed value_factorial value_negated extreme component_of part_of_text word_applied set_of_members set_between projected_at projection of_defined_kind value_output print_output passes_check chosen_values given_to_index listed_values numbered_sets set_made table_values values_of_rows param_made calls_of_first param_at set_at goes before_others without_last_zeros scaled value_answer scaled_answer literal_answer field_answer is_mantissa is_number_token is_field sum_answer difference_answer product_answer number_answer quotient_answer power_answer is_sum_within euclid gcd lcm whole ratio zero one plus negate minus times reciprocal over at_most below rational_cmp same is_whole total floor ceil half round absolute larger smaller product_of power product_to is_natural within_limit factorial_answer truncated truncated_quotient truncated_rest stop_of div_answer mod_answer choices ways family_of subsets_of sized inserted set_listed of_alike union_of without_of inter_of symdiff_of cross_of firsts projected progression range_count range_of element_named value_at value_inserted without_return ended_lines behind_last_end is_open_behind before_comment is_left_open separated line_fields unquoted element_of value_element is_short_line with_fields with_data_line in_turn line_taken data_rows after_blanks is_blank_only kind_of_letter every_of position_of field_of fields_spelled in_angles template_of
on_written_trees = tt
