-- The pieces of a line.
use Rattle.zim_gate.proofs.PenLaws.{◌▸◌}
use Rattle.zim_mps.proofs.bounds.put_end.Goals as goal

pub returns : goal.returns
returns g c =
    c.put.ensures ▸ c.put-2.ensures ▸ c.put-3.ensures ▸ c.put_name.ensures ▸ c.put-4.ensures ▸ c.put_number.ensures ▸ c.put-5.ensures
