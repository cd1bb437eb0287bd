-- Each list is copied as far as the loop has come.
use Rattle.std.proofs.Common.{◌≡◌, take}
use Rattle.zim_typed_copy.proofs.constants.+copy.Given as goal

abbrev pub invariant-copy_consts-loop-tree : goal.invariant-copy_consts-loop-tree
invariant-copy_consts-loop-tree l = l.made ≡ take l.tree-index l.trees

abbrev pub invariant-copy_body-loop-tuple : goal.invariant-copy_body-loop-tuple
invariant-copy_body-loop-tuple l = l.made ≡ take l.tuple-index l.tuple-items

abbrev pub invariant-copy_loop-loop-slot : goal.invariant-copy_loop-loop-slot
invariant-copy_loop-loop-slot l = l.slots ≡ take l.slot-index l.slot-items

abbrev pub invariant-copy_operations-loop-place : goal.invariant-copy_operations-loop-place
invariant-copy_operations-loop-place l = l.made ≡ take l.place-index l.others

abbrev pub invariant-copy_conjuncts-loop-place : goal.invariant-copy_conjuncts-loop-place
invariant-copy_conjuncts-loop-place l = l.made ≡ take l.place-index l.others

abbrev pub invariant-copy_flagged-loop-place : goal.invariant-copy_flagged-loop-place
invariant-copy_flagged-loop-place l = l.made ≡ take l.place-index l.others
