-- The pieces of a line.
use Rattle.zim_gate.proofs.PenLaws.{◌▸◌}
use Rattle.zim_table.proofs.writer.put_aim.Goals as goal

pub returns : goal.returns
returns g c = simp c.text_of_aim.ensures at (c.put.ensures ▸ c.put-2.ensures ▸ c.put-3.ensures)
