-- The constant and the name of `one`.
use Rattle.zim_gate.proofs.PenLaws.{◌▸◌}
use Rattle.zim_lp.proofs.terms.put_first_offset.Goals as goal

pub returns : goal.returns
returns g c = c.put_number.ensures ▸ c.put.ensures
