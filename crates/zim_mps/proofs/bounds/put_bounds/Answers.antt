-- The bounds of the program's columns, and then those of `one`.
use Rattle.std.proofs.Common.{List, ℕ, subst}
use Rattle.zim_gate.specs.Pen.{Writes}
use Rattle.zim_gate.proofs.PenLaws.{◌▸◌}
use Rattle.zim_rows.specs.Finished.{program_of}
use Rattle.zim_mps.proofs.Pieces.{bounds_joined}
use Rattle.zim_mps.proofs.bounds.put_bounds.Goals as goal

pub returns : goal.returns
returns g c =
    subst
    (λ (t : List ℕ). Writes g.F.Folder.state c.args.pen.now c.put_offset_bounds.new.pen t)
    (bounds_joined (program_of c.args.system.now))
    (simp c.as_slice.ensures at (c.put_numbered_bounds.ensures ▸ c.put_offset_bounds.ensures))
