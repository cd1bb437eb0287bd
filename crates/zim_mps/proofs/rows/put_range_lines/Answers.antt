-- One row more.
use Rattle.std.proofs.Common.{ℕ, ◌+◌, List, ◌++◌, take, sym, subst}
use Rattle.std.specs.Prelude.{flat_map}
use Rattle.std.specs.List.{enumerate_from}
use Rattle.zim_gate.specs.Pen.{Writes}
use Rattle.zim_gate.proofs.PenLaws.{◌▸◌, Writes-nothing}
use Rattle.zim_rows.specs.declared.rows.Row.{Row}
use Rattle.zim_mps.specs.Puts.{HasShortKind}
use Rattle.zim_mps.specs.Text.{range_text}
use Rattle.zim_fields.proofs.Numbered.{numbered-next}
use Rattle.zim_mps.proofs.rows.put_range_lines.Goals as goal

pub loop-index-init : goal.loop-index-init
loop-index-init g c = Writes-nothing c.args.pen.now

pub put_range-requires : goal.put_range-requires
put_range-requires g c = subst HasShortKind (sym c.index-rows-index.is) (c.requires c.loop-index.index c.index-rows-index.result c.loop-index-test.true)

pub loop-index-preserved : goal.loop-index-preserved
loop-index-preserved g c =
    subst
    (λ (t : List ℕ). Writes g.F.Folder.state c.args.pen.now c.put_range.new.pen t)
    (sym (numbered-next range_text c.args.rows.now c.loop-index.index c.index-rows-index.result c.loop-index-test.true))
    (subst
    (λ (row : Row). Writes g.F.Folder.state c.args.pen.now c.put_range.new.pen (flat_map range_text (enumerate_from 1 (take c.loop-index.index c.args.rows.now)) ++ range_text (c.loop-index.index + 1, row)))
    c.index-rows-index.is
    (c.loop-index.invariant ▸ c.put_range.ensures))
