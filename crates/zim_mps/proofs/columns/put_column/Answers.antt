-- The two pieces.
use Rattle.zim_gate.proofs.PenLaws.{◌▸◌}
use Rattle.zim_mps.proofs.columns.put_column.Goals as goal

pub returns : goal.returns
returns g c = c.put_cost.ensures ▸ c.put_entries.ensures
