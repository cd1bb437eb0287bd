-- The pieces of a line.
use Rattle.zim_gate.proofs.PenLaws.{◌▸◌}
use Rattle.zim_mps.proofs.rows.put_row.Goals as goal

pub returns : goal.returns
returns g c = simp c.letter_of.ensures at (c.put.ensures ▸ c.put_row_name.ensures ▸ c.put-2.ensures)
