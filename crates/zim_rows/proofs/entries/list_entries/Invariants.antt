use Rattle.std.proofs.Common.{◌≡◌, ℕ, ◌+◌, ◌<◌, [], slice_index_or, take, vec_len}
use Rattle.zim_rows.specs.Entries.{entries_of_column}
use Rattle.zim_rows.proofs.entries.list_entries.Given as goal

abbrev pub invariant-loop-i : goal.invariant-loop-i
invariant-loop-i l = record {
  len : vec_len l.lists ≡ l.columns;
  listed : (j : ℕ) → j < l.columns → slice_index_or l.lists.items j [] ≡ entries_of_column (take l.i l.rows) (j + 1);
}
