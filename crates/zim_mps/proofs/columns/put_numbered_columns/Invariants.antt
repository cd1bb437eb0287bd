-- What was put so far, whether the last column of it is integer, and which terms of the objective are left.
use Rattle.std.proofs.Common.{◌≡◌, ℕ, ◌+◌, ◌<◌, false}
use Rattle.zim_gate.specs.Pen.{Writes}
use Rattle.zim_rows.specs.Finished.{program_of}
use Rattle.zim_mps.specs.Puts.{AreCosts}
use Rattle.zim_mps.specs.Text.{coefficient_of, columns_front, last_mark}
use Rattle.zim_mps.proofs.Pieces.{first_columns}
use Rattle.zim_mps.proofs.columns.put_numbered_columns.Given as goal

abbrev pub invariant-loop-index : goal.invariant-loop-index
invariant-loop-index g l = record {
  text : Writes g.F.Folder.state l.initial.pen l.pen (columns_front false (first_columns (program_of l.system) l.index));
  mark : l.before ≡ last_mark false (first_columns (program_of l.system) l.index);
  costs : AreCosts (l.index + 1) l.costs;
  same : (j : ℕ) → l.index < j → coefficient_of l.costs j ≡ coefficient_of l.system.target.terms j;
}
