-- What was put so far.
use Rattle.std.specs.Prelude.{take, flat_map}
use Rattle.std.specs.List.{enumerate_from}
use Rattle.zim_gate.specs.Pen.{Writes}
use Rattle.zim_lp.proofs.Pieces.{row_lines}
use Rattle.zim_lp.proofs.rows.put_rows.Given as goal

abbrev pub invariant-loop-index : goal.invariant-loop-index
invariant-loop-index g l =
    Writes g.F.Folder.state l.initial.pen l.pen (flat_map (row_lines l.columns) (enumerate_from 1 (take l.index l.rows)))
