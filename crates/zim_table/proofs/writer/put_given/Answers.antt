-- The pieces of a line.
use Rattle.zim_gate.proofs.PenLaws.{◌▸◌}
use Rattle.zim_table.proofs.writer.put_given.Goals as goal

pub returns : goal.returns
returns g c = c.put.ensures ▸ c.put-2.ensures ▸ c.put_number.ensures ▸ c.put-3.ensures ▸ c.put_fraction.ensures ▸ c.put-4.ensures
