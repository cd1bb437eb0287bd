-- The blank and the word.
use Rattle.zim_gate.proofs.SinkPenLaws.{◌▸◌}
use Rattle.zim_gate.proofs.fault_lines.put_word.Goals as goal

pub returns-in-Unsupported : goal.returns-in-Unsupported
returns-in-Unsupported g c = rw c.in-Unsupported.is (c.put.ensures ▸ rw c.word_text.ensures at c.put-in-Unsupported.ensures)
