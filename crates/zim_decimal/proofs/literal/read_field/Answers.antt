-- The sign stands before a number token, or the text is no field.
use Rattle.zim_decimal.proofs.LiteralLemmas.{field_none, field_some, field_past}
use Rattle.zim_decimal.proofs.literal.read_field.Goals as goal

pub returns-in-Ok : goal.returns-in-Ok
returns-in-Ok c =
    field_some
    c.args.text.now
    c.without_sign-number.result.now
    c.is_number.result
    c.has_minus.result
    c.in-Ok.q
    c.with_sign.result
    c.without_sign-number.ensures
    c.is_number.ensures
    c.if-is_number.true
    c.in-Ok.ensures
    c.has_minus.ensures
    c.with_sign.ensures

pub returns-in-Err : goal.returns-in-Err
returns-in-Err c =
    field_past
    c.args.text.now
    c.without_sign-number.result.now
    c.is_number.result
    c.in-Err.field-0
    c.without_sign-number.ensures
    c.is_number.ensures
    c.if-is_number.true
    c.in-Err.ensures

pub returns-else-is_number : goal.returns-else-is_number
returns-else-is_number c =
    field_none
    c.args.text.now
    c.without_sign-number.result.now
    c.is_number.result
    c.without_sign-number.ensures
    c.is_number.ensures
    c.if-is_number.false
