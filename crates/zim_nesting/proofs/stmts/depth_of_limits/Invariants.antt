use Rattle.std.proofs.Common.{◌≡◌, map, take}
use Rattle.zim_nesting.specs.Counts.{counts_of}
use Rattle.zim_nesting.specs.Depth as spec
use Rattle.zim_nesting.proofs.stmts.depth_of_limits.Given as goal

abbrev pub invariant-loop-limit : goal.invariant-loop-limit
invariant-loop-limit l = l.counts ≡ counts_of (spec.all (map spec.limit_depth (take l.limit-index l.limits)))
