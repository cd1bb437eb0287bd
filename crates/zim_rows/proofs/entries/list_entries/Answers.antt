-- The lists grow by each row's entries, and hold those of all rows in the end.
use Rattle.std.proofs.Common.{◌≡◌, ◌+◌, ◌<◌, ◌++◌, take, vec_len, ◌∙◌, ap, sym, arith, List}
use Rattle.std.proofs.lemmas.List.{take_all}
use Rattle.zim_rows.specs.declared.rows.Row.{Row}
use Rattle.zim_linear.specs.Forms.{Term}
use Rattle.zim_rows.specs.Entries.{entries_of_row, entries_of_column}
use Rattle.zim_rows.proofs.EntryLemmas.{entries_of_column_more, entries_by_column_all, row_is_over}
use Rattle.zim_rows.proofs.entries.list_entries.Goals as goal

pub add_row_entries-requires : goal.add_row_entries-requires
add_row_entries-requires c =
    row_is_over _ _ _ _ _ _ c.requires.rows c.loop-i-test.true c.index-rows-i.is c.as_slice.ensures c.loop-i.invariant.len

pub loop-i-preserved : goal.loop-i-preserved
loop-i-preserved c = record {
  len = c.in_ok-add_row_entries.ensures.len ∙ c.loop-i.invariant.len;
  listed = λ j h.
      let lt : j < vec_len c.loop-i.lists = omega (arith, c.loop-i.invariant.len) in
      c.in_ok-add_row_entries.ensures.added j lt
      ∙ ap (λ xs. xs ++ entries_of_row (c.loop-i.i + 1) c.as_slice.result.now (j + 1)) (c.loop-i.invariant.listed j h)
      ∙ ap (λ (ts : List Term). entries_of_column (take c.loop-i.i c.args.rows.now) (j + 1) ++ entries_of_row (c.loop-i.i + 1) ts (j + 1)) (c.as_slice.ensures ∙ ap (λ (r : Row). r.terms) c.index-rows-i.is)
      ∙ sym (entries_of_column_more c.args.rows.now c.loop-i.i c.index-rows-i.result (j + 1) c.loop-i-test.true);
}

pub returns : goal.returns
returns c =
    let all : take c.loop-i.i c.args.rows.now ≡ c.args.rows.now = take_all c.loop-i.i c.args.rows.now c.loop-i-test.false in
    c.from_vec.ensures
    ∙ entries_by_column_all c.args.columns c.args.rows.now c.loop-i.lists.items (sym c.loop-i.lists.ok.0 ∙ c.loop-i.invariant.len) (λ j h. c.loop-i.invariant.listed j h ∙ ap (λ rows. entries_of_column rows (j + 1)) all)
