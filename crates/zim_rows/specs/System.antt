-- A system of columns, rows and an objective while it is built: how it begins, how it grows, and what holds of it.
use Rattle.std.specs.Prelude.{ℕ, ◌≡◌, ◌<◌, ◌≤◌, ◌+◌, ◌-◌, Bool, false, IsTrue, List, [], ◌∷◌, ◌++◌, length, All, Option, Some, None, IfSome, Result, Ok, Err, slice_index_or}
use Rattle.zim_fault.specs.declared.faults.Place.{Place}
use Rattle.zim_rational.specs.Rational.{IsBelow, is_whole}
use Rattle.zim_linear.specs.Forms.{Term, LinearForm, AreTerms, AreColumns}
use Rattle.zim_linear.specs.Ends.{IsUncrossed, unbounded}
use Rattle.zim_linear.specs.declared.sides.Sides.{Sides}
use Rattle.zim_rows.specs.declared.rows.Column.{Column}
use Rattle.zim_rows.specs.declared.rows.GivenRow.{GivenRow}
use Rattle.zim_rows.specs.declared.rows.Objective.{Objective}
use Rattle.zim_rows.specs.declared.rows.RowFrom.{RowFrom}
use Rattle.zim_rows.specs.declared.rows.RowKind.{RowKind}
use Rattle.zim_rows.specs.declared.rows.RowKind.TheVariants.{One, Range}
use Rattle.zim_rows.specs.declared.faults.RowFault.{RowFault}
use Rattle.zim_rows.specs.declared.faults.RowFault.TheVariants.{TooManyRows, TooManyColumns, Memory}

-- The columns in their order, the first being column 1, the rows in theirs, and the objective, if there is one.
pub record LinearSystem : Type 0 where
  pub columns : List Column
  pub rows : List GivenRow
  pub objective : Option Objective

-- No columns, no rows and no objective.
abbrev pub empty_system : LinearSystem
empty_system = record { columns = []; rows = []; objective = None }

-- A column with this mark and these sides.
abbrev pub column_of : Bool → Sides → Column
column_of integer sides = record { integer = integer; sides = sides }

-- The columns with these marks and sides, in their order.
abbrev pub columns_of : List Bool → List Sides → List Column
columns_of [] sides = []
columns_of (mark ∷ marks) [] = []
columns_of (mark ∷ marks) (s ∷ sides) = column_of mark s ∷ columns_of marks sides

-- Column j, of which the first is column 1.
abbrev pub column_at : List Column → ℕ → Column
column_at columns j = slice_index_or columns (j - 1) (column_of false unbounded)

-- How many columns a system has at most, and how many rows.
abbrev pub most_in_system : ℕ
most_in_system = 1000000

-- The system with one more column at the end.
abbrev pub with_column : LinearSystem → Column → LinearSystem
with_column system column = record {
  columns = system.columns ++ column ∷ [];
  rows = system.rows;
  objective = system.objective;
}

-- A row from there, of these terms and of this kind.
abbrev pub row_of : RowFrom → List Term → RowKind → GivenRow
row_of from terms kind = record { from = from; terms = terms; kind = kind }

-- The system with one more row at the end.
abbrev pub with_row : LinearSystem → GivenRow → LinearSystem
with_row system row = record {
  columns = system.columns;
  rows = system.rows ++ row ∷ [];
  objective = system.objective;
}

-- The system with this objective in place of the one that it had.
abbrev pub with_objective : LinearSystem → Bool → Place → LinearForm → LinearSystem
with_objective system maximize place form = record {
  columns = system.columns;
  rows = system.rows;
  objective = Some (record { maximize = maximize; place = place; form = form });
}

-- The finite sides are whole numbers.
pub record AreWholeSides (sides : Sides) : Type 0 where
  pub low : IfSome sides.low (λ l. IsTrue (is_whole l))
  pub high : IfSome sides.high (λ h. IsTrue (is_whole h))

-- The low side isn't above the high one, and the finite sides of an integer column are whole.
pub record IsColumn (column : Column) : Type 0 where
  pub uncrossed : IsUncrossed column.sides
  pub whole : IsTrue column.integer → AreWholeSides column.sides

-- A range's low side is below its high one.
abbrev pub IsKind : RowKind → Type 0
IsKind (One sense right) = Unit {0}
IsKind (Range low high) = IsBelow low high

-- A row over n columns: its terms are in column order, none with coefficient 0.
pub record IsGivenRow (n : ℕ) (row : GivenRow) : Type 0 where
  pub terms : AreTerms row.terms
  pub columns : AreColumns n row.terms
  pub kind : IsKind row.kind

-- An objective over n columns.
pub record IsObjective (n : ℕ) (objective : Objective) : Type 0 where
  pub terms : AreTerms objective.form.terms
  pub columns : AreColumns n objective.form.terms

-- What holds of every system: its columns, its rows and its objective are such, and there are no more columns and rows
-- than there may be.
pub record IsSystem (columns : List Column) (rows : List GivenRow) (objective : Option Objective) : Type 0 where
  pub few_columns : length columns ≤ most_in_system
  pub few_rows : length rows ≤ most_in_system
  pub each_column : All IsColumn columns
  pub each_row : All (IsGivenRow (length columns)) rows
  pub objective_is : IfSome objective (IsObjective (length columns))

-- How a system is kept: one mark and one pair of sides for each column.
pub record IsKeptSystem (marks : List Bool) (sides : List Sides) (rows : List GivenRow) (objective : Option Objective) : Type 0 where
  pub paired : length marks ≡ length sides
  pub system : IsSystem (columns_of marks sides) rows objective

-- What a call that adds a column answers: the column's number, the column standing at the end; a refusal exactly where
-- as many are there as there may be. Memory is refused only where there is room for one more. After a refusal the system is as
-- before.
abbrev pub ColumnAnswer : LinearSystem → Column → LinearSystem → Result ℕ RowFault → Type 0
ColumnAnswer old column new (Ok number) =
    (length old.columns < most_in_system) × (number ≡ length old.columns + 1) × (new ≡ with_column old column)
ColumnAnswer old column new (Err TooManyColumns) = (most_in_system ≤ length old.columns) × (new ≡ old)
ColumnAnswer old column new (Err TooManyRows) = ⊥
ColumnAnswer old column new (Err Memory) = (length old.columns < most_in_system) × (new ≡ old)

-- What a call that adds a row answers, by the same rule for rows.
abbrev pub RowAdded : LinearSystem → GivenRow → LinearSystem → Result Unit RowFault → Type 0
RowAdded old row new (Ok _) = (length old.rows < most_in_system) × (new ≡ with_row old row)
RowAdded old row new (Err TooManyRows) = (most_in_system ≤ length old.rows) × (new ≡ old)
RowAdded old row new (Err TooManyColumns) = ⊥
RowAdded old row new (Err Memory) = (length old.rows < most_in_system) × (new ≡ old)

-- One system extends another where the other's columns and rows are the first of its own, and the objective is the same.
pub record Extends (later earlier : LinearSystem) : Type 0 where
  pub columns : (more : List Column) × (later.columns ≡ earlier.columns ++ more)
  pub rows : (more : List GivenRow) × (later.rows ≡ earlier.rows ++ more)
  pub objective : later.objective ≡ earlier.objective
