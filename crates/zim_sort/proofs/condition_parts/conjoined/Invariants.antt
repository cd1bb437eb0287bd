-- What the loop has come past is made.
use Rattle.std.proofs.Common.{◌≡◌}
use Rattle.zim_sort.specs.Parts.{conjoined_part}
use Rattle.zim_sort.proofs.condition_parts.conjoined.Given as goal

abbrev pub invariant-loop-place : goal.invariant-loop-place
invariant-loop-place l = l.made ≡ conjoined_part l.yielded
