-- What was put so far, and the place of the last row in its statement.
use Rattle.std.proofs.Common.{◌≡◌, ℕ, ◌<◌, ◌≤◌, length, get_or}
use Rattle.std.specs.Prelude.{take, flat_map}
use Rattle.std.specs.List.{enumerate_from}
use Rattle.zim_gate.specs.Pen.{Writes}
use Rattle.zim_rows.specs.declared.rows.Row.{Row}
use Rattle.zim_table.specs.Text.{statement_of, row_text}
use Rattle.zim_table.proofs.Places.{count_of}
use Rattle.zim_table.proofs.writer.put_rows.Given as goal

abbrev pub invariant-loop-index : goal.invariant-loop-index
invariant-loop-index g l = record {
  put : Writes g.F.Folder.state l.initial.pen l.pen (flat_map (row_text l.names l.rows) (enumerate_from 1 (take l.index l.rows)));
  counted : l.place ≡ count_of l.rows l.index l.statement;
  before : (k : ℕ) (d : Row) → k < l.index → statement_of (get_or l.rows k d) ≤ l.statement;
  later : (k : ℕ) (d : Row) → l.index ≤ k → k < length l.rows → l.statement ≤ statement_of (get_or l.rows k d);
}
