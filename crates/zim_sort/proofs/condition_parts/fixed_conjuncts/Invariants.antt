-- What the loop has come past is made.
use Rattle.std.proofs.Common.{◌≡◌}
use Rattle.zim_sort.specs.Parts.{fixed_conjuncts}
use Rattle.zim_sort.proofs.condition_parts.fixed_conjuncts.Given as goal

abbrev pub invariant-loop-place : goal.invariant-loop-place
invariant-loop-place l = l.made ≡ fixed_conjuncts l.yielded
