-- The three pieces of a first term.
use Rattle.zim_gate.proofs.PenLaws.{◌▸◌}
use Rattle.zim_lp.proofs.terms.put_first_term.Goals as goal

pub returns : goal.returns
returns g c = c.put_number.ensures ▸ c.put.ensures ▸ c.put_column_name.ensures
