-- What is left of the operands tells what all of them tell.
use Rattle.std.proofs.Common.{◌≡◌, drop}
use Rattle.zim_static.specs.Faults.{is_by_stars, known_operands}
use Rattle.zim_static.proofs.operators.is_by_stars.Given as goal

abbrev pub invariant-loop-place : goal.invariant-loop-place
invariant-loop-place l = is_by_stars l.varying (known_operands l.scope (drop l._place-index l.others)) ≡ is_by_stars l.before (known_operands l.scope l.others)
