-- One column more.
use Rattle.std.proofs.Common.{ℕ, ◌+◌, List, ◌++◌, take, sym, subst}
use Rattle.std.specs.Prelude.{flat_map}
use Rattle.std.specs.List.{enumerate_from}
use Rattle.zim_gate.specs.Pen.{Writes}
use Rattle.zim_gate.proofs.PenLaws.{◌▸◌, Writes-nothing}
use Rattle.zim_rows.specs.declared.rows.Column.{Column}
use Rattle.zim_mps.specs.Puts.{column_sides_text}
use Rattle.zim_fields.proofs.Numbered.{numbered-next}
use Rattle.zim_mps.proofs.bounds.put_numbered_bounds.Goals as goal

pub loop-index-init : goal.loop-index-init
loop-index-init g c = Writes-nothing c.args.pen.now

pub loop-index-preserved : goal.loop-index-preserved
loop-index-preserved g c =
    subst
    (λ (t : List ℕ). Writes g.F.Folder.state c.args.pen.now c.put_column_sides.new.pen t)
    (sym (numbered-next column_sides_text c.args.columns.now c.loop-index.index c.index-columns-index.result c.loop-index-test.true))
    (subst
    (λ (column : Column). Writes g.F.Folder.state c.args.pen.now c.put_column_sides.new.pen (flat_map column_sides_text (enumerate_from 1 (take c.loop-index.index c.args.columns.now)) ++ column_sides_text (c.loop-index.index + 1, column)))
    c.index-columns-index.is
    (c.loop-index.invariant ▸ c.put_column_sides.ensures))
