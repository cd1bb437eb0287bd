-- One more.
use Rattle.std.proofs.Common.{ℕ, List, subst}
use Rattle.zim_gate.specs.Pen.{Writes}
use Rattle.zim_gate.proofs.PenLaws.{◌▸◌, Writes-nothing}
use Rattle.zim_lp.proofs.Pieces.{row_lines, numbered_step}
use Rattle.zim_lp.proofs.rows.put_rows.Goals as goal

pub loop-index-init : goal.loop-index-init
loop-index-init g c = Writes-nothing c.args.pen.now

pub loop-index-preserved : goal.loop-index-preserved
loop-index-preserved g c =
    subst
    (λ (t : List ℕ). Writes g.F.Folder.state c.args.pen.now c.put_row.new.pen t)
    (numbered_step (row_lines c.args.columns) 1 c.args.rows.now c.loop-index.index c.index-rows-index.result c.loop-index-test.true c.index-rows-index.is)
    (c.loop-index.invariant ▸ c.put_row.ensures)
