-- Each list is copied as far as the loop has come.
use Rattle.std.proofs.Common.{◌≡◌, take}
use Rattle.zim_formula_copy.proofs.copies.+copy_term.Given as goal

abbrev pub invariant-copy_operands-loop-place : goal.invariant-copy_operands-loop-place
invariant-copy_operands-loop-place l = l.made ≡ take l.place-index l.others

abbrev pub invariant-copy_terms-loop-tree : goal.invariant-copy_terms-loop-tree
invariant-copy_terms-loop-tree l = l.made ≡ take l.tree-index l.trees
