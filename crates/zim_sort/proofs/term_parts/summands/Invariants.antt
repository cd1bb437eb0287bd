-- The summands are made that the loop has come past.
use Rattle.std.proofs.Common.{◌≡◌}
use Rattle.zim_sort.specs.Parts.{summands}
use Rattle.zim_sort.proofs.term_parts.summands.Given as goal

abbrev pub invariant-loop-place : goal.invariant-loop-place
invariant-loop-place l = l.made ≡ summands l.yielded
