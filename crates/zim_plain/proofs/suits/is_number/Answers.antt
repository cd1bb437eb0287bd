-- A text with a sign is no number token, and one without is a number token where it is a field.
use Rattle.std.proofs.Common.{sym, ◌∙◌, ap, Ok}
use Rattle.zim_plain.proofs.TokenTests.{sign_no_number, no_field, some_field, past_field}
use Rattle.zim_plain.proofs.suits.is_number.Goals as goal

pub returns-then-has_sign : goal.returns-then-has_sign
returns-then-has_sign c = sign_no_number c.args.text.now (sym c.has_sign.ensures ∙ c.if-has_sign.true)

pub returns-in-Ok-Some : goal.returns-in-Ok-Some
returns-in-Ok-Some c = some_field c.args.text.now c.in-Ok-Some.field-0-0 (sym c.has_sign.ensures ∙ c.if-has_sign.false) (ap Ok (sym c.in-Ok-Some.field-0-is) ∙ sym c.in-Ok-Some.is ∙ c.read_field.ensures)

pub returns-in-Ok-None : goal.returns-in-Ok-None
returns-in-Ok-None c = no_field c.args.text.now (sym c.has_sign.ensures ∙ c.if-has_sign.false) (ap Ok (sym c.in-Ok-None.field-0-is) ∙ sym c.in-Ok-None.is ∙ c.read_field.ensures)

pub returns-in-Err : goal.returns-in-Err
returns-in-Err c = past_field c.args.text.now c.in-Err.field-0 (sym c.has_sign.ensures ∙ c.if-has_sign.false) (sym c.in-Err.is ∙ c.read_field.ensures)
