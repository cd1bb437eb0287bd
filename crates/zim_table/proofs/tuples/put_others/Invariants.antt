-- What was put so far.
use Rattle.std.specs.Prelude.{take, flat_map}
use Rattle.zim_table.specs.Text.{further_text}
use Rattle.zim_gate.specs.Pen.{Writes}
use Rattle.zim_table.proofs.tuples.put_others.Given as goal

abbrev pub invariant-loop-element : goal.invariant-loop-element
invariant-loop-element g l = Writes g.F.Folder.state l.initial.pen l.pen (flat_map further_text (take l.element-index l.others))
