use Rattle.std.proofs.Common.{◌≡◌, ℕ, ◌+◌, ◌<◌, [], ◌++◌, slice_index_or, take, vec_len}
use Rattle.zim_rows.specs.Entries.{entries_of_row}
use Rattle.zim_rows.proofs.entries.add_row_entries.Given as goal

abbrev pub invariant-loop-term : goal.invariant-loop-term
invariant-loop-term l = record {
  len : vec_len l.lists ≡ vec_len l.initial.lists;
  added : (j : ℕ) → j < vec_len l.initial.lists → slice_index_or l.lists.items j [] ≡ slice_index_or l.initial.lists.items j [] ++ entries_of_row l.number (take l.term-index l.terms) (j + 1);
}
