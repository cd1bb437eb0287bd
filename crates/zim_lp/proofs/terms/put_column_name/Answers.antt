-- The letter and then the number.
use Rattle.zim_gate.proofs.PenLaws.{◌▸◌}
use Rattle.zim_lp.proofs.terms.put_column_name.Goals as goal

pub returns : goal.returns
returns g c = c.put.ensures ▸ c.put_number.ensures
