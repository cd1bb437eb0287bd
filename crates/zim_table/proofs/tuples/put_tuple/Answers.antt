-- The pieces of a line.
use Rattle.zim_gate.proofs.PenLaws.{◌▸◌}
use Rattle.zim_table.proofs.tuples.put_tuple.Goals as goal

pub returns : goal.returns
returns g c = c.put.ensures ▸ c.put_element.ensures ▸ c.put_others.ensures ▸ c.put-2.ensures
