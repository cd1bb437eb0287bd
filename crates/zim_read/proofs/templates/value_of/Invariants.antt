-- The number of the digits so far, or one past the last position.
use Rattle.std.proofs.Common.{◌≡◌, take}
use Rattle.zim_read.specs.Private.{value_within}
use Rattle.zim_read.proofs.templates.value_of.Given as goal

abbrev pub invariant-loop-digit : goal.invariant-loop-digit
invariant-loop-digit l = l.value ≡ value_within (take l.digit-index l.digits)
