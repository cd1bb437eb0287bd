-- The pieces of a line.
use Rattle.zim_gate.proofs.PenLaws.{◌▸◌}
use Rattle.zim_lp.proofs.rows.put_compared.Goals as goal

pub returns : goal.returns
returns g c =
    simp
    c.text_of_sense.ensures
    at (c.put.ensures ▸ c.put_label.ensures ▸ c.put-2.ensures ▸ c.put_terms.ensures ▸ c.put-3.ensures ▸ c.put_number.ensures ▸ c.put-4.ensures)
