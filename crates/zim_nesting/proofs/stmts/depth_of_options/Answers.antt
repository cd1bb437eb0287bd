-- One more.
use Rattle.zim_nesting.specs.Depth.{no_nesting, option_depth}
use Rattle.zim_nesting.proofs.CountsLemmas.{given, followed-next}
use Rattle.zim_nesting.proofs.stmts.depth_of_options.Goals as goal

pub loop-place-preserved : goal.loop-place-preserved
loop-place-preserved c =
    given _ _ (c.then-counts.ensures _ _ c.loop-place.invariant c.depth_of_expr.ensures)
    (followed-next option_depth no_nesting c.args.options.now c.loop-place._place-index c.loop-place-item.result c.loop-place-test.true c.loop-place-item.is)
