-- The two lines of a range.
use Rattle.std.proofs.Common.{ℕ, List, subst}
use Rattle.zim_gate.specs.Pen.{Writes}
use Rattle.zim_gate.proofs.PenLaws.{◌▸◌}
use Rattle.zim_lp.proofs.Pieces.{range_lines}
use Rattle.zim_lp.proofs.rows.put_row.Goals as goal

pub returns-in-Range : goal.returns-in-Range
returns-in-Range g c =
    let lines =
    simp c.as_slice-terms.ensures at (c.put_compared-in-Range.ensures ▸ c.put_compared-in-Range-2.ensures) in
    subst
    (λ (t : List ℕ). Writes g.F.Folder.state c.args.pen.now c.put_compared-in-Range-2.new.pen t)
    (range_lines c.args.columns c.args.number c.args.row.now c.in-Range.low c.in-Range.high c.in-Range.is)
    lines
