-- What was put so far.
use Rattle.std.specs.Prelude.{take, flat_map}
use Rattle.zim_table.specs.Text.{escaped_byte}
use Rattle.zim_gate.specs.Pen.{Writes}
use Rattle.zim_table.proofs.tuples.put_escaped.Given as goal

abbrev pub invariant-loop-byte : goal.invariant-loop-byte
invariant-loop-byte g l = Writes g.F.Folder.state l.initial.pen l.pen (flat_map escaped_byte (take l.byte-index l.bytes))
