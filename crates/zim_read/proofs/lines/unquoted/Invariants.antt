-- What is taken, and the rest without its quotes, are the field without them.
use Rattle.std.proofs.Common.{◌≡◌, ◌++◌, length}
use Rattle.zim_read.specs.Lines.{unquoted}
use Rattle.zim_read.proofs.lines.unquoted.Given as goal

abbrev pub invariant-loop-at : goal.invariant-loop-at
invariant-loop-at l = l.text ++ unquoted l.rest ≡ unquoted l.field

abbrev pub decreases-loop-at : goal.decreases-loop-at
decreases-loop-at l = length l.rest
