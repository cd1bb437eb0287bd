-- One more.
use Rattle.zim_nesting.specs.Depth.{no_nesting, limit_depth}
use Rattle.zim_nesting.proofs.CountsLemmas.{given, followed-next}
use Rattle.zim_nesting.proofs.stmts.depth_of_limits.Goals as goal

pub loop-limit-preserved : goal.loop-limit-preserved
loop-limit-preserved c =
    given _ _ (c.then-counts.ensures _ _ c.loop-limit.invariant (simp c.get.ensures at c.depth_of_expr.ensures))
    (followed-next limit_depth no_nesting c.args.limits.now c.loop-limit.limit-index c.limit-item.result c.loop-limit-test.true c.limit-item.is)
