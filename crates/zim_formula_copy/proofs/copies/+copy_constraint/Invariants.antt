-- The parts are copied as far as the loop has come.
use Rattle.std.proofs.Common.{◌≡◌, take}
use Rattle.zim_formula_copy.proofs.copies.+copy_constraint.Given as goal

abbrev pub invariant-copy_constraints-loop-tree : goal.invariant-copy_constraints-loop-tree
invariant-copy_constraints-loop-tree l = l.made ≡ take l.tree-index l.trees
