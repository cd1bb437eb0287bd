-- The pieces of a bound.
use Rattle.zim_gate.proofs.PenLaws.{◌▸◌}
use Rattle.zim_lp.proofs.columns.put_both_ends.Goals as goal

pub returns : goal.returns
returns g c = c.put.ensures ▸ c.put_number.ensures ▸ c.put-2.ensures ▸ c.put_column_name.ensures ▸ c.put-3.ensures ▸ c.put_number-2.ensures ▸ c.put-4.ensures
