-- The number, the name and the word.
use Rattle.zim_gate.proofs.SinkPenLaws.{◌▸◌}
use Rattle.zim_gate.proofs.fault_lines.put_kind.Goals as goal

pub returns : goal.returns
returns g c =
    (rw c.number_of_kind.ensures at c.put_number.ensures) ▸ c.put.ensures ▸ (rw c.text_of_kind.ensures at c.put-2.ensures) ▸ c.put_word.ensures
