-- Systems that grow extend what they were.
use Rattle.std.proofs.Common.{List, [], ◌∷◌, ◌++◌, refl, ap, sym, ◌∙◌, append_assoc, append-nil}
use Rattle.zim_rows.specs.declared.rows.Column.{Column}
use Rattle.zim_rows.specs.declared.rows.GivenRow.{GivenRow}
use Rattle.zim_rows.specs.System.{LinearSystem, with_column, with_row, Extends}

pub extends_itself : (s : LinearSystem) → Extends s s
extends_itself s = record {
  columns = ([], sym (append-nil s.columns));
  rows = ([], sym (append-nil s.rows));
  objective = refl;
}

pub extends_further : (a b c : LinearSystem) → Extends c b → Extends b a → Extends c a
extends_further a b c late early = record {
  columns =
      (early.columns.0 ++ late.columns.0, late.columns.1 ∙ ap (λ (xs : List Column). xs ++ late.columns.0) early.columns.1 ∙ append_assoc a.columns early.columns.0 late.columns.0);
  rows =
      (early.rows.0 ++ late.rows.0, late.rows.1 ∙ ap (λ (xs : List GivenRow). xs ++ late.rows.0) early.rows.1 ∙ append_assoc a.rows early.rows.0 late.rows.0);
  objective = late.objective ∙ early.objective;
}

pub column_extends : (s : LinearSystem) (column : Column) → Extends (with_column s column) s
column_extends s column = record {
  columns = (column ∷ [], refl);
  rows = ([], sym (append-nil s.rows));
  objective = refl;
}

pub row_extends : (s : LinearSystem) (row : GivenRow) → Extends (with_row s row) s
row_extends s row = record {
  columns = ([], sym (append-nil s.columns));
  rows = (row ∷ [], refl);
  objective = refl;
}
