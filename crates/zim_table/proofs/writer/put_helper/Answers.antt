-- The pieces of a line.
use Rattle.zim_gate.proofs.PenLaws.{◌▸◌}
use Rattle.zim_table.proofs.writer.put_helper.Goals as goal

pub returns : goal.returns
returns g c = c.put.ensures ▸ c.put_number.ensures ▸ c.put-2.ensures
