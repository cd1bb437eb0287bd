-- The lines of the program's columns, the last marker, and the lines of `one`.
use Rattle.std.proofs.Common.{Bool, false, List, ℕ, ◌++◌, subst}
use Rattle.zim_gate.specs.Pen.{Writes}
use Rattle.zim_gate.proofs.PenLaws.{◌▸◌}
use Rattle.zim_rows.specs.Finished.{program_of}
use Rattle.zim_mps.specs.Puts.{offset_text}
use Rattle.zim_mps.specs.Text.{numbered_columns, columns_front, marker_text}
use Rattle.zim_mps.proofs.Pieces.{columns_joined}
use Rattle.zim_mps.proofs.columns.put_columns.Goals as goal

pub returns : goal.returns
returns g c =
    subst
    (λ (t : List ℕ). Writes g.F.Folder.state c.args.pen.now c.put_offset.new.pen t)
    (columns_joined (program_of c.args.system.now))
    (subst
    (λ (last : Bool). Writes g.F.Folder.state c.args.pen.now c.put_offset.new.pen (columns_front false (numbered_columns (program_of c.args.system.now)) ++ (marker_text last false ++ offset_text (program_of c.args.system.now))))
    c.put_numbered_columns-last.ensures.mark
    (c.put_numbered_columns-last.ensures.text ▸ c.put_marker.ensures ▸ c.put_offset.ensures))
