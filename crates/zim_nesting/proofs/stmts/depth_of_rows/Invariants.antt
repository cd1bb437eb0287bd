use Rattle.std.proofs.Common.{◌≡◌, map, take}
use Rattle.zim_nesting.specs.Counts.{counts_of}
use Rattle.zim_nesting.specs.Depth as spec
use Rattle.zim_nesting.proofs.stmts.depth_of_rows.Given as goal

abbrev pub invariant-loop-items : goal.invariant-loop-items
invariant-loop-items l = l.counts ≡ counts_of (spec.all (map spec.row_depth (take l.items-index l.rows)))
