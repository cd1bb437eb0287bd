use Rattle.std.proofs.Common.{◌≡◌, map, take}
use Rattle.zim_nesting.specs.Counts.{counts_of}
use Rattle.zim_nesting.specs.Depth as spec
use Rattle.zim_nesting.proofs.stmts.depth_of_entries.Given as goal

abbrev pub invariant-loop-entry : goal.invariant-loop-entry
invariant-loop-entry l = l.counts ≡ counts_of (spec.all (map spec.entry_depth (take l.entry-index l.entries)))
