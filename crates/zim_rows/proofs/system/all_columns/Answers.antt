-- The columns grow by each mark and its sides, and are all in the end.
use Rattle.std.proofs.Common.{List, [], ◌∷◌, ◌++◌, All, ap₂, subst, sym, ◌∙◌}
use Rattle.std.specs.Prelude.{false}
use Rattle.std.proofs.lemmas.List.Elements.{All-nil, All-cons, All-append}
use Rattle.zim_rows.specs.declared.rows.Column.{Column}
use Rattle.zim_rows.specs.Program.{HasSidesWithin}
use Rattle.zim_rows.specs.System.{column_of}
use Rattle.zim_rows.proofs.ColumnLemmas.{columns_more}
use Rattle.zim_rows.proofs.system.all_columns.Goals as goal

pub loop-i-preserved : goal.loop-i-preserved
loop-i-preserved c = (
  c.in_ok-push.ensures.items
      ∙ ap₂ (λ (xs : List Column) (x : Column). xs ++ x ∷ []) c.loop-i.invariant.0 (c.column_of.ensures.column ∙ ap₂ column_of c.mark_at-integer.ensures c.index-sides-i.is)
      ∙ sym (columns_more c.args.marks.now c.args.sides.now c.loop-i.i false c.index-sides-i.result c.requires c.loop-i-test.true),
  subst (All HasSidesWithin) (sym c.in_ok-push.ensures.items)
      (All-append HasSidesWithin c.loop-i.columns.items (c.column_of.result ∷ []) c.loop-i.invariant.1
      (All-cons HasSidesWithin c.column_of.result [] c.column_of.ensures.within (All-nil HasSidesWithin))),
)
