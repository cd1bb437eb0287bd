-- The constants are there that the loop has come past.
use Rattle.std.proofs.Common.{◌≡◌}
use Rattle.zim_sort.specs.Parts.{fixed_operands}
use Rattle.zim_sort.proofs.term_parts.fixed_operands.Given as goal

abbrev pub invariant-loop-place : goal.invariant-loop-place
invariant-loop-place l = l.made ≡ fixed_operands l.yielded
