-- The three pieces of a label.
use Rattle.zim_gate.proofs.PenLaws.{◌▸◌}
use Rattle.zim_lp.proofs.rows.put_label.Goals as goal

pub returns : goal.returns
returns g c = c.put.ensures ▸ c.put_number.ensures ▸ c.put-2.ensures
