-- The sides of `one`, or nothing.
use Rattle.std.proofs.Common.{Bool, [], ◌∷◌, sym, ◌∙◌, subst}
use Rattle.std.specs.Prelude.{flat_map, if◌then◌else◌}
use Rattle.zim_gate.specs.Pen.{Writes}
use Rattle.zim_gate.proofs.PenLaws.{Writes-nothing}
use Rattle.zim_rows.specs.Finished.{program_of}
use Rattle.zim_mps.specs.Text.{mps_offset_column, bound_text}
use Rattle.zim_mps.proofs.Numbers.{short_one}
use Rattle.zim_mps.proofs.bounds.put_offset_bounds.Goals as goal

pub put_sides-requires-clause-low : goal.put_sides-requires-clause-low
put_sides-requires-clause-low g c = short_one _ c.one.ensures

pub put_sides-requires-clause-high : goal.put_sides-requires-clause-high
put_sides-requires-clause-high g c = short_one _ c.one-then-has_offset.ensures

pub returns-else-has_offset : goal.returns-else-has_offset
returns-else-has_offset g c =
    subst
    (λ (b : Bool). Writes g.F.Folder.state c.args.pen.now c.args.pen.now (flat_map bound_text (if b then mps_offset_column (program_of c.args.system.now) ∷ [] else [])))
    (sym c.if-has_offset.false ∙ c.has_offset.ensures)
    (Writes-nothing c.args.pen.now)
