-- The coefficients of rows, column by column.
use Rattle.std.specs.Prelude.{ℕ, ◌==◌, ◌≤◌, List, map, All}
use Rattle.std.specs.List.{filter, flat_map, enumerate_from, range_with_len}
use Rattle.zim_linear.specs.Forms.{Term}
use Rattle.zim_rows.specs.declared.rows.Row.{Row}

-- A term's column is one of those from 1 to n.
pub record IsOver (n : ℕ) (term : Term) : Type 0 where
  pub from_one : 1 ≤ term.0
  pub in_columns : term.0 ≤ n

-- The columns of a row's terms are among those from 1 to n.
pub record IsOverRow (n : ℕ) (row : Row) : Type 0 where
  pub each : All (IsOver n) row.terms

-- The entry that a row of this number gives to a column: the row's number and the column's coefficient, if it has one.
abbrev pub entries_of_row : ℕ → List Term → ℕ → List Term
entries_of_row number terms column = map (λ (t : Term). (number, t.1)) (filter (λ (t : Term). t.0 == column) terms)

-- The entries of a column: the rows that have it, by their number from 1 and in their order, with its coefficients.
abbrev pub entries_of_column : List Row → ℕ → List Term
entries_of_column rows column = flat_map (λ (r : ℕ × Row). entries_of_row r.0 r.1.terms column) (enumerate_from 1 rows)

-- The entries of the columns from the first to the last.
abbrev pub entries_by_column : ℕ → List Row → List (List Term)
entries_by_column columns rows = map (entries_of_column rows) (range_with_len 1 columns)
