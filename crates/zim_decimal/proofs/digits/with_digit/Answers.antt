-- A zero is counted, and another digit ends the zeros.
use Rattle.zim_decimal.proofs.DigitLaws.{counted_zero, counted_some, counted_none}
use Rattle.zim_decimal.proofs.digits.with_digit.Goals as goal

pub returns-then-digit-eq48-clause-counted : goal.returns-then-digit-eq48-clause-counted
returns-then-digit-eq48-clause-counted c ds =
    counted_zero ds c.args.read.value c.args.read.zeros c.args.digit c.if-digit-eq48.true

pub returns-in-Some-clause-counted : goal.returns-in-Some-clause-counted
returns-in-Some-clause-counted c ds =
    counted_some
    ds
    c.args.read.value
    c.appended-value.result
    c.in-Some.value
    c.args.read.zeros
    c.args.digit
    c.in-Some.is
    c.appended-value.ensures
    c.requires.digit
    c.if-digit-eq48.false

pub returns-in-None-clause-counted : goal.returns-in-None-clause-counted
returns-in-None-clause-counted c ds =
    counted_none ds c.args.read.value c.args.read.zeros c.args.digit c.in-None.is c.requires.digit c.if-digit-eq48.false
