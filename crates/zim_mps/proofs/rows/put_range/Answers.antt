-- The line of a range, or nothing.
use Rattle.std.proofs.Common.{sym, subst}
use Rattle.zim_gate.specs.Pen.{Writes}
use Rattle.zim_gate.proofs.PenLaws.{Writes-nothing}
use Rattle.zim_rational.specs.Rational.{Rational}
use Rattle.zim_rows.specs.declared.rows.RowKind.{RowKind}
use Rattle.zim_mps.specs.Text.{range_line, range_text_of}
use Rattle.zim_mps.proofs.rows.put_range.Goals as goal

pub returns-in-One : goal.returns-in-One
returns-in-One g c =
    subst
    (λ (kind : RowKind). Writes g.F.Folder.state c.args.pen.now c.args.pen.now (range_text_of c.args.number kind))
    (sym c.in-One.is)
    (Writes-nothing c.args.pen.now)

pub returns-in-Range : goal.returns-in-Range
returns-in-Range g c =
    subst
    (λ (kind : RowKind). Writes g.F.Folder.state c.args.pen.now c.put_range_line.new.pen (range_text_of c.args.number kind))
    (sym c.in-Range.is)
    (subst
    (λ (q : Rational). Writes g.F.Folder.state c.args.pen.now c.put_range_line.new.pen (range_line c.args.number q))
    c.difference.ensures.value
    c.put_range_line.ensures)
