-- A term behind those so far is put at the end.
use Rattle.zim_gathered.proofs.ColumnLemmas.{one_behind}
use Rattle.zim_gathered.proofs.columns.by_column.Goals as goal

pub loop-term-preserved : goal.loop-term-preserved
loop-term-preserved c =
    one_behind c.args.terms.now c.loop-term.made.entries c.insert.new.self.entries c.loop-term.term-index c.term-item.result c.loop-term-test.true c.term-item.is c.requires c.loop-term.invariant c.in_ok-insert.ensures.entries
