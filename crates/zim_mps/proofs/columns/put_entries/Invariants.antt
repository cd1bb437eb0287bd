-- What was put so far.
use Rattle.std.specs.Prelude.{flat_map, take}
use Rattle.zim_gate.specs.Pen.{Writes}
use Rattle.zim_mps.specs.Puts.{name_text}
use Rattle.zim_mps.specs.Text.{entry_text}
use Rattle.zim_mps.proofs.columns.put_entries.Given as goal

abbrev pub invariant-loop-entry : goal.invariant-loop-entry
invariant-loop-entry g l =
    Writes g.F.Folder.state l.initial.pen l.pen (flat_map (entry_text (name_text l.name)) (take l.entry-index l.entries))
