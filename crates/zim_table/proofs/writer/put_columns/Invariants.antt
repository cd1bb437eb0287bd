-- What was put so far; the columns that are left are those from the next position on.
use Rattle.std.proofs.Common.{◌≡◌, ℕ, ◌+◌, ◌<◌, ◌≤◌, IsTrue, drop}
use Rattle.std.specs.Prelude.{flat_map}
use Rattle.std.specs.List.{range_with_len}
use Rattle.zim_columns.specs.Names.{are_rising}
use Rattle.zim_gate.specs.Pen.{Writes}
use Rattle.zim_table.specs.Text.{declared_at, column_text}
use Rattle.zim_table.proofs.writer.put_columns.Given as goal

abbrev pub invariant-loop-index : goal.invariant-loop-index
invariant-loop-index g l = record {
  put : Writes g.F.Folder.state l.initial.pen l.pen (flat_map (column_text l.declared) (range_with_len 1 l.index));
  few : l.next ≤ l.index;
  left : (j : ℕ) → l.index < j → declared_at l.declared j ≡ declared_at (drop l.next l.declared) j;
  rising : IsTrue (are_rising (l.index + 1) (drop l.next l.declared));
}
