-- The parts are cut at the first point.
use Rattle.zim_decimal.proofs.TokenLaws.{mantissa_whole, mantissa_parts, mantissa_other}
use Rattle.zim_decimal.proofs.token.is_mantissa.Goals as goal

pub returns-then-point-text : goal.returns-then-point-text
returns-then-point-text c =
    mantissa_whole c.args.text.now c.point_at-point.result c.are_digits.result c.point_at-point.ensures c.if-point-text.true c.are_digits.ensures

pub returns-then-are_all_digits : goal.returns-then-are_all_digits
returns-then-are_all_digits c =
    mantissa_parts
    c.args.text.now
    c.point_at-point.result
    c.are_all_digits.result
    c.are_digits-then-are_all_digits.result
    c.point_at-point.ensures
    c.if-point-text.false
    c.are_all_digits.ensures
    c.if-are_all_digits.true
    c.are_digits-then-are_all_digits.ensures

pub returns-else-are_all_digits : goal.returns-else-are_all_digits
returns-else-are_all_digits c =
    mantissa_other
    c.args.text.now
    c.point_at-point.result
    c.are_all_digits.result
    c.point_at-point.ensures
    c.if-point-text.false
    c.are_all_digits.ensures
    c.if-are_all_digits.false
