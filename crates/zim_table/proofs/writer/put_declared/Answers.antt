-- The pieces of the lines.
use Rattle.zim_gate.proofs.PenLaws.{◌▸◌}
use Rattle.zim_table.proofs.writer.put_declared.Goals as goal

pub returns : goal.returns
returns g c =
    (simp c.as_slice.ensures at (c.put.ensures ▸ c.put_number.ensures ▸ c.put-2.ensures ▸ c.put-3.ensures ▸ c.put_index.ensures ▸ c.put-4.ensures)) ▸ c.put_detail.ensures ▸ c.put_detail-2.ensures
