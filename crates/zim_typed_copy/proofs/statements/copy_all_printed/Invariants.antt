use Rattle.std.proofs.Common.{◌≡◌, take}
use Rattle.zim_typed_copy.proofs.statements.copy_all_printed.Given as goal

abbrev pub invariant-loop-tree : goal.invariant-loop-tree
invariant-loop-tree l = l.made ≡ take l.tree-index l.trees
