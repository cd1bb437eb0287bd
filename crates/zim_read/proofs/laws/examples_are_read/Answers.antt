-- Each text is read as its words say.
use Rattle.std.proofs.Common.{refl}
use Rattle.zim_read.specs.Templates.{after_blanks, is_blank_only, kind_of_letter, every_of, position_of, field_of, fields_spelled, in_angles, template_of}
use Rattle.zim_read.specs.Lines.{without_return, ended_lines, behind_last_end, is_open_behind, before_comment, is_left_open, separated, line_fields}
use Rattle.zim_read.proofs.laws.examples_are_read.Goals as goal

pub returns-clause-templates : goal.returns-clause-templates
unfolding after_blanks is_blank_only kind_of_letter every_of position_of field_of fields_spelled in_angles template_of
returns-clause-templates c = record {
  three = refl;
  blanks = refl;
  parted_digits = refl;
  index_and_value = refl;
  value_alone = refl;
  every_field = refl;
  other_letter = refl;
  zeros = refl;
  position_zero = refl;
  last = refl;
  past_the_last = refl;
  no_field = refl;
  set_with_value = refl;
  value_in_angles = refl;
}

pub returns-clause-lines : goal.returns-clause-lines
unfolding without_return ended_lines behind_last_end is_open_behind before_comment is_left_open separated line_fields
returns-clause-lines c = record {
  returns = refl;
  last_end = refl;
  empty_line = refl;
  comment = refl;
  quoted_comment = refl;
  quote_as_comment = refl;
  open_quote = refl;
  runs = refl;
  quotes = refl;
  empty_field = refl;
  inner_return = refl;
}
