use Rattle.std.proofs.Common.{◌≤◌, ◌+◌, ◌++◌, take, length, []}
use Rattle.zim_decimal.specs.Digits.{IsCounted}
use Rattle.zim_decimal.proofs.digits.read_digits.Given as goal

abbrev pub invariant-loop-digit : goal.invariant-loop-digit
invariant-loop-digit l = record {
  counted : IsCounted ([] ++ take l.digit-index l.whole) l.value l.zeros;
  zeros : l.zeros ≤ l.digit-index;
}

abbrev pub invariant-loop-decimal : goal.invariant-loop-decimal
invariant-loop-decimal l = record {
  counted : IsCounted (l.whole ++ take l.decimal-index l.behind) l.value l.zeros;
  zeros : l.zeros ≤ length l.whole + l.decimal-index;
}
