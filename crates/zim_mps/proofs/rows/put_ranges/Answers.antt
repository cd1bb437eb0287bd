-- The section, or nothing.
use Rattle.std.proofs.Common.{Bool, ◌++◌, [], sym, ◌∙◌, subst}
use Rattle.std.specs.Prelude.{codes, flat_map, if◌then◌else◌}
use Rattle.std.specs.List.{enumerate_from}
use Rattle.zim_gate.specs.Pen.{Writes}
use Rattle.zim_gate.proofs.PenLaws.{◌▸◌, Writes-nothing}
use Rattle.zim_mps.specs.Text.{range_text}
use Rattle.zim_mps.proofs.rows.put_ranges.Goals as goal

pub returns-then-has_range : goal.returns-then-has_range
returns-then-has_range g c =
    subst
    (λ (b : Bool). Writes g.F.Folder.state c.args.pen.now c.put_range_lines.new.pen (if b then codes "RANGES\n" ++ flat_map range_text (enumerate_from 1 c.args.rows.now) else []))
    (sym c.if-has_range.true ∙ c.has_range.ensures)
    (c.put.ensures ▸ c.put_range_lines.ensures)

pub returns-else-has_range : goal.returns-else-has_range
returns-else-has_range g c =
    subst
    (λ (b : Bool). Writes g.F.Folder.state c.args.pen.now c.args.pen.now (if b then codes "RANGES\n" ++ flat_map range_text (enumerate_from 1 c.args.rows.now) else []))
    (sym c.if-has_range.false ∙ c.has_range.ensures)
    (Writes-nothing c.args.pen.now)
