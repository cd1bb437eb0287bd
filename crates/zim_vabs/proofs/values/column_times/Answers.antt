-- The form 0 and a multiple of the column.
use Rattle.zim_vabs.proofs.ColumnTimesLemmas.{times_made}
use Rattle.zim_vabs.proofs.values.column_times.Goals as goal

pub returns : goal.returns
returns c = times_made c.args.q c.args.x _ c.constant-nought.result c.zero.result c.zero.ensures c.constant-nought.ensures c.with_column.ensures
