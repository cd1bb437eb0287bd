use Rattle.std.proofs.Common.{◌+◌, length}
use Rattle.zim_linear.proofs.MergeLemmas.{IsMerging}
use Rattle.zim_linear.proofs.sum.merge.Given as goal

abbrev pub invariant-loop-s : goal.invariant-loop-s
invariant-loop-s l = IsMerging l.fn.left l.fn.right l.made.items l.left l.right

abbrev pub decreases-loop-s : goal.decreases-loop-s
decreases-loop-s l = length l.left + length l.right
