-- The digits at the front, and the letter behind them.
use Rattle.std.proofs.Common.{sym, refl, ◌∙◌, arith}
use Rattle.std.specs.Char.{is_ascii_digit}
use Rattle.std.proofs.lemmas.List.Sums.{prefix_len-le-length}
use Rattle.zim_read.proofs.TemplateLemmas.{all_in_front, field_parts}
use Rattle.zim_read.proofs.templates.field_of.Goals as goal

pub split_at-requires : goal.split_at-requires
split_at-requires c = omega (arith, c.count_digits.ensures, prefix_len-le-length is_ascii_digit c.after_blanks-text.result.now)

pub position_of-requires : goal.position_of-requires
position_of-requires c =
    rw (c.split_at.ensures.front, c.count_digits.ensures) (all_in_front is_ascii_digit c.after_blanks-text.result.now)

pub returns-in_default : goal.returns-in_default
returns-in_default c =
    sym (field_parts c.args.text.now c.after_blanks-text.result.now c.split_at.result.0.now c.split_at.result.1.now c.count_digits.result c.after_blanks-text.ensures c.count_digits.ensures c.split_at.ensures.front c.split_at.ensures.back
    ∙ rw (sym c.position_of.ensures ∙ c.in_default.is) refl)

pub returns-in-Some-kind_then_blanks : goal.returns-in-Some-kind_then_blanks
returns-in-Some-kind_then_blanks c =
    sym (field_parts c.args.text.now c.after_blanks-text.result.now c.split_at.result.0.now c.split_at.result.1.now c.count_digits.result c.after_blanks-text.ensures c.count_digits.ensures c.split_at.ensures.front c.split_at.ensures.back
    ∙ rw (sym c.position_of.ensures ∙ c.in-Some.is, sym c.after_blanks.ensures, sym c.kind_then_blanks.ensures ∙ c.in-Some-kind_then_blanks.is) refl)

pub returns-in-None : goal.returns-in-None
returns-in-None c =
    sym (field_parts c.args.text.now c.after_blanks-text.result.now c.split_at.result.0.now c.split_at.result.1.now c.count_digits.result c.after_blanks-text.ensures c.count_digits.ensures c.split_at.ensures.front c.split_at.ensures.back
    ∙ rw (sym c.position_of.ensures ∙ c.in-Some.is, sym c.after_blanks.ensures, sym c.kind_then_blanks.ensures ∙ c.in-None.is) refl)
