use Rattle.std.proofs.Common.{◌≡◌, take}
use Rattle.zim_decimal.specs.Exponent.{capped}
use Rattle.zim_decimal.proofs.literal.capped_value.Given as goal

abbrev pub invariant-loop-digit : goal.invariant-loop-digit
invariant-loop-digit l = l.size ≡ capped (take l.digit-index l.digits)
