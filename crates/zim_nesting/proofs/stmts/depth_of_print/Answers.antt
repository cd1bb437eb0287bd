-- One more.
use Rattle.zim_nesting.specs.Depth.{no_nesting, printed_depth}
use Rattle.zim_nesting.proofs.CountsLemmas.{given, followed-next}
use Rattle.zim_nesting.proofs.stmts.depth_of_print.Goals as goal

pub loop-item-preserved : goal.loop-item-preserved
loop-item-preserved c =
    given _ _ (c.then-counts.ensures _ _ c.loop-item.invariant c.depth_of_printed.ensures)
    (followed-next printed_depth no_nesting c.args.items.now c.loop-item.item-index c.item-item.result c.loop-item-test.true c.item-item.is)
