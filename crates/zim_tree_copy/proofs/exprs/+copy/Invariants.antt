-- Each list is copied as far as the loop has come.
use Rattle.std.proofs.Common.{◌≡◌, take}
use Rattle.zim_tree_copy.proofs.exprs.+copy.Given as goal

abbrev pub invariant-copy_exprs-loop-tree : goal.invariant-copy_exprs-loop-tree
invariant-copy_exprs-loop-tree l = l.made ≡ take l.tree-index l.trees

abbrev pub invariant-copy_body-loop-tuple : goal.invariant-copy_body-loop-tuple
invariant-copy_body-loop-tuple l = l.made ≡ take l.tuple-index l.tuple-items

abbrev pub invariant-copy_operations-loop-place : goal.invariant-copy_operations-loop-place
invariant-copy_operations-loop-place l = l.made ≡ take l.place-index l.others

abbrev pub invariant-copy_conjuncts-loop-place : goal.invariant-copy_conjuncts-loop-place
invariant-copy_conjuncts-loop-place l = l.made ≡ take l.place-index l.others

abbrev pub invariant-copy_relations-loop-place : goal.invariant-copy_relations-loop-place
invariant-copy_relations-loop-place l = l.made ≡ take l.place-index l.others

abbrev pub invariant-copy_disjuncts-loop-place : goal.invariant-copy_disjuncts-loop-place
invariant-copy_disjuncts-loop-place l = l.made ≡ take l.place-index l.others
