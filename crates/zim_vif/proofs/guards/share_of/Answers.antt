-- The column alone, or 1 less the column, times the number.
use Rattle.zim_vif.proofs.RowCallLemmas.{positive_share, negative_share}
use Rattle.zim_vif.proofs.guards.share_of.Goals as goal

pub returns-then-l : goal.returns-then-l
returns-then-l c =
    positive_share c.args.l c.args.q c.zero.result c.constant-nought.result c.with_column.result c.requires c.if-l.true c.zero.ensures c.constant-nought.ensures c.with_column.ensures

pub returns-else-l : goal.returns-else-l
returns-else-l c =
    negative_share c.args.l c.args.q c.negated.result c.constant-whole.result c.with_column-else-l.result c.requires c.if-l.false c.negated.ensures c.constant-whole.ensures c.with_column-else-l.ensures
