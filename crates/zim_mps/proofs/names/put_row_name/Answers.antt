-- The letter and then the number.
use Rattle.zim_gate.proofs.PenLaws.{◌▸◌}
use Rattle.zim_mps.proofs.names.put_row_name.Goals as goal

pub returns : goal.returns
returns g c = c.put.ensures ▸ c.put_number.ensures
