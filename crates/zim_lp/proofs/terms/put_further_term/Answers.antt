-- The five pieces of a further term.
use Rattle.zim_gate.proofs.PenLaws.{◌▸◌}
use Rattle.zim_lp.proofs.terms.put_further_term.Goals as goal

pub returns : goal.returns
returns g c =
    simp
    (c.break_before.ensures, c.sign.ensures, c.is_negative.ensures)
    at (c.put.ensures ▸ c.put-2.ensures ▸ c.put_magnitude.ensures ▸ c.put-3.ensures ▸ c.put_column_name.ensures)
