-- What was copied stands before what is left.
use Rattle.zim_gate.proofs.Slices.{read_front}
use Rattle.zim_gate.proofs.reading.Reading.take.Goals as goal

pub returns-clause-bytes : goal.returns-clause-bytes
returns-clause-bytes c =
    rw (← c.self.view_is) (read_front c.self.inside.bytes.items c.deref.result.now c.copy_from_slice.new.self _ c.self.inside.given c.min-count.result _
    c.deref.ensures.value c.copy_from_slice.ensures.after c.min-count.ensures)
