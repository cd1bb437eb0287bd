-- Each list is counted as far as the loop has come.
use Rattle.std.proofs.Common.{◌≡◌, map, take}
use Rattle.zim_nesting.specs.Counts.{counts_of}
use Rattle.zim_nesting.specs.Depth as spec
use Rattle.zim_nesting.specs.Depth.{Depth}
use Rattle.zim_nesting.proofs.exprs.+depth.Given as goal

abbrev pub invariant-depth_of_exprs-loop-tree : goal.invariant-depth_of_exprs-loop-tree
invariant-depth_of_exprs-loop-tree l = l.counts ≡ counts_of (spec.all (map spec.depth (take l.tree-index l.trees)))

abbrev pub invariant-depth_of_angles-loop-tree : goal.invariant-depth_of_angles-loop-tree
invariant-depth_of_angles-loop-tree l = l.counts ≡ counts_of (spec.all (map spec.angle_depth (take l.tree-index l.trees)))

abbrev pub invariant-depth_of_operations-loop-place : goal.invariant-depth_of_operations-loop-place
invariant-depth_of_operations-loop-place l = (d : Depth) → l.fn.first ≡ counts_of d → l.counts ≡ counts_of (spec.operations_depth d (take l._place-index l.others))

abbrev pub invariant-depth_of_relations-loop-place : goal.invariant-depth_of_relations-loop-place
invariant-depth_of_relations-loop-place l = (d : Depth) → l.fn.first ≡ counts_of d → l.counts ≡ counts_of (spec.relations_depth d (take l._place-index l.others))

abbrev pub invariant-depth_of_conjuncts-loop-place : goal.invariant-depth_of_conjuncts-loop-place
invariant-depth_of_conjuncts-loop-place l = (d : Depth) → l.fn.first ≡ counts_of d → l.counts ≡ counts_of (spec.conjuncts_depth d (take l._place-index l.others))

abbrev pub invariant-depth_of_disjuncts-loop-place : goal.invariant-depth_of_disjuncts-loop-place
invariant-depth_of_disjuncts-loop-place l = (d : Depth) → l.fn.first ≡ counts_of d → l.counts ≡ counts_of (spec.disjuncts_depth d (take l._place-index l.others))
