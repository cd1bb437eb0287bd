-- The pieces of a line.
use Rattle.zim_gate.proofs.PenLaws.{◌▸◌}
use Rattle.zim_table.proofs.tuples.put_string.Goals as goal

pub returns : goal.returns
returns g c = c.put.ensures ▸ c.put_escaped.ensures ▸ c.put-2.ensures
