use Rattle.std.proofs.Common.{◌≡◌, drop}
use Rattle.zim_sets.specs.Sets.{same_shape}
use Rattle.zim_sets.proofs.shapes.is_same_shape.Given as goal

abbrev pub invariant-loop-at : goal.invariant-loop-at
invariant-loop-at l = same_shape (drop l.at l.left) (drop l.at l.right) ≡ same_shape l.left l.right
