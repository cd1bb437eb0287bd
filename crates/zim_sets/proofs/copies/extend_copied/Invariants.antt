use Rattle.std.proofs.Common.{◌≡◌, ◌++◌, take}
use Rattle.zim_sets.proofs.copies.extend_copied.Given as goal

abbrev pub invariant-loop-item : goal.invariant-loop-item
invariant-loop-item g l = l.made ≡ l.initial.made ++ take l.item-index l.items
