use Rattle.std.proofs.Common.{◌≡◌, take}
use Rattle.zim_sets.specs.Choices.{items_at}
use Rattle.zim_sets.proofs.copies.copied_at.Given as goal

abbrev pub invariant-loop-position : goal.invariant-loop-position
invariant-loop-position g l = l.made ≡ items_at l.items (take l.position-index l.positions)
