-- The parts of the token are cut where the definition cuts them.
use Rattle.std.proofs.Common.{take, arith}
use Rattle.zim_decimal.specs.Token.{is_point}
use Rattle.zim_decimal.proofs.TokenLaws.{place_bound, whole_are_digits, behind_are_digits, exponent_are_digits}
use Rattle.zim_decimal.proofs.LiteralLemmas.{literal_some, literal_none}
use Rattle.zim_decimal.proofs.literal.read_literal.Goals as goal

pub after-behind-requires : goal.after-behind-requires
after-behind-requires c = place_bound is_point (take c.mark_at-mark.result c.args.text.now) c.point_at-point.result c.point_at-point.ensures

pub read_digits-digits-requires-clause-first : goal.read_digits-digits-requires-clause-first
read_digits-digits-requires-clause-first c =
    whole_are_digits c.args.text.now c.mark_at-mark.result c.point_at-point.result c.requires c.mark_at-mark.ensures c.point_at-point.ensures

pub read_digits-digits-requires-clause-second : goal.read_digits-digits-requires-clause-second
read_digits-digits-requires-clause-second c =
    behind_are_digits
    c.args.text.now
    c.after-behind.result.now
    c.mark_at-mark.result
    c.point_at-point.result
    c.requires
    c.mark_at-mark.ensures
    c.point_at-point.ensures
    c.after-behind.ensures

pub exponent-requires : goal.exponent-requires
exponent-requires c =
    exponent_are_digits c.args.text.now c.after.result.now c.mark_at-mark.result c.requires c.mark_at-mark.ensures c.after.ensures

pub returns-in-Some : goal.returns-in-Some
returns-in-Some c =
    literal_some
    c.args.text.now
    c.after-behind.result.now
    c.after.result.now
    c.mark_at-mark.result
    c.point_at-point.result
    c.in-Some.q
    c.read_digits-digits.result.zeros
    c.read_digits-digits.result.value
    c.exponent.result
    c.scaled.result
    c.mark_at-mark.ensures
    c.point_at-point.ensures
    c.after-behind.ensures
    c.after.ensures
    c.read_digits-digits.ensures.counted
    c.in-Some.is
    c.exponent.ensures
    (omega arith)
    (omega arith)
    c.scaled.ensures

pub returns-in-None : goal.returns-in-None
returns-in-None c =
    literal_none
    c.args.text.now
    c.after-behind.result.now
    c.mark_at-mark.result
    c.point_at-point.result
    c.read_digits-digits.result.zeros
    c.read_digits-digits.result.value
    c.mark_at-mark.ensures
    c.point_at-point.ensures
    c.after-behind.ensures
    c.read_digits-digits.ensures.counted
    c.in-None.is
