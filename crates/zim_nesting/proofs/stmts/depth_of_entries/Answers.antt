-- One more.
use Rattle.zim_nesting.specs.Depth.{no_nesting, entry_depth}
use Rattle.zim_nesting.proofs.CountsLemmas.{given, followed-next}
use Rattle.zim_nesting.proofs.stmts.depth_of_entries.Goals as goal

pub loop-entry-preserved : goal.loop-entry-preserved
loop-entry-preserved c =
    given _ _ (c.then-counts.ensures _ _ c.loop-entry.invariant c.depth_of_entry.ensures)
    (followed-next entry_depth no_nesting c.args.entries.now c.loop-entry.entry-index c.entry-item.result c.loop-entry-test.true c.entry-item.is)
