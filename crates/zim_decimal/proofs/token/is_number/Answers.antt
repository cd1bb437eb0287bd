-- The parts are cut at the first mark of an exponent.
use Rattle.zim_decimal.proofs.TokenLaws.{number_parts, number_other}
use Rattle.zim_decimal.proofs.token.is_number.Goals as goal

pub returns-then-is_mantissa : goal.returns-then-is_mantissa
returns-then-is_mantissa c =
    number_parts
    c.args.text.now
    c.mark_at-mark.result
    c.is_mantissa.result
    c.is_exponent.result
    c.mark_at-mark.ensures
    c.is_mantissa.ensures
    c.if-is_mantissa.true
    c.is_exponent.ensures

pub returns-else-is_mantissa : goal.returns-else-is_mantissa
returns-else-is_mantissa c =
    number_other c.args.text.now c.mark_at-mark.result c.is_mantissa.result c.mark_at-mark.ensures c.is_mantissa.ensures c.if-is_mantissa.false
