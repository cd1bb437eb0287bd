-- One more.
use Rattle.zim_nesting.specs.Depth.{no_nesting, row_depth}
use Rattle.zim_nesting.proofs.CountsLemmas.{given, followed-next}
use Rattle.zim_nesting.proofs.stmts.depth_of_rows.Goals as goal

pub loop-items-preserved : goal.loop-items-preserved
loop-items-preserved c =
    given _ _ (c.then-counts.ensures _ _ c.loop-items.invariant c.depth_of_row.ensures)
    (followed-next row_depth no_nesting c.args.rows.now c.loop-items.items-index c.loop-items-item.result c.loop-items-test.true c.loop-items-item.is)
