use Rattle.std.proofs.Common.{◌≡◌, map, take}
use Rattle.zim_nesting.specs.Counts.{counts_of}
use Rattle.zim_nesting.specs.Depth as spec
use Rattle.zim_nesting.proofs.stmts.depth_of_options.Given as goal

abbrev pub invariant-loop-place : goal.invariant-loop-place
invariant-loop-place l = l.counts ≡ counts_of (spec.all (map spec.option_depth (take l._place-index l.options)))
