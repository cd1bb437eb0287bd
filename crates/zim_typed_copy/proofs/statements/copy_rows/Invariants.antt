use Rattle.std.proofs.Common.{◌≡◌, take}
use Rattle.zim_typed_copy.proofs.statements.copy_rows.Given as goal

abbrev pub invariant-loop-items : goal.invariant-loop-items
invariant-loop-items l = l.made ≡ take l.items-index l.trees
