-- What the loop has come past is made.
use Rattle.std.proofs.Common.{◌≡◌}
use Rattle.zim_sort.specs.Parts.{disjoined_part}
use Rattle.zim_sort.proofs.condition_parts.disjoined.Given as goal

abbrev pub invariant-loop-place : goal.invariant-loop-place
invariant-loop-place l = l.made ≡ disjoined_part l.yielded
