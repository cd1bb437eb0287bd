-- Which numbers solve a system, and what its objective is at them.
use Rattle.std.specs.Prelude.{◌≡◌, ◌-◌, IsTrue, List, [], ◌∷◌, length, map, take, Option, Some, None}
use Rattle.std.specs.List.{slice_index_or}
use Rattle.zim_rational.specs.Rational.{Rational, zero, plus, is_whole, IsAtMost}
use Rattle.zim_linear.specs.Forms.{Term, ColumnNumbers, sum_at, number_at}
use Rattle.zim_linear.specs.Ends.{IsBetween}
use Rattle.zim_rows.specs.declared.rows.Column.{Column}
use Rattle.zim_rows.specs.declared.rows.GivenRow.{GivenRow}
use Rattle.zim_rows.specs.declared.rows.Row.{Row}
use Rattle.zim_rows.specs.declared.rows.Objective.{Objective}
use Rattle.zim_rows.specs.declared.rows.RowKind.{RowKind}
use Rattle.zim_rows.specs.declared.rows.RowKind.TheVariants.{One, Range}
use Rattle.zim_rows.specs.declared.rows.Sense.{Sense}
use Rattle.zim_rows.specs.declared.rows.Sense.TheVariants.{AtLeast, AtMost, Equal}
use Rattle.zim_rows.specs.System.{LinearSystem}
use Rattle.zim_rows.specs.Program.{LinearProgram}

-- What each column is in a list of numbers, of which the first is that of column 1.
abbrev pub assigned : List Rational → ColumnNumbers
assigned numbers j = slice_index_or numbers (j - 1) zero

-- A number keeps a column: it lies between the sides, and is whole where the column is integer.
pub record KeepsColumn (column : Column) (v : Rational) : Type 0 where
  pub between : IsBetween column.sides v
  pub whole : IsTrue column.integer → IsTrue (is_whole v)

-- There is one number for each column in order, and it keeps the column.
abbrev pub KeepColumns : List Column → List Rational → Type 0
KeepColumns [] [] = Unit {0}
KeepColumns [] (v ∷ vs) = ⊥
KeepColumns (c ∷ cs) [] = ⊥
KeepColumns (c ∷ cs) (v ∷ vs) = KeepsColumn c v × KeepColumns cs vs

-- A sum compares with a right side as the sense says.
abbrev pub Compares : Sense → Rational → Rational → Type 0
Compares AtLeast sum right = IsAtMost right sum
Compares AtMost sum right = IsAtMost sum right
Compares Equal sum right = sum ≡ right

-- A sum is what a row asks for.
abbrev pub KeepsKind : RowKind → Rational → Type 0
KeepsKind (One sense right) sum = Compares sense sum right
KeepsKind (Range low high) sum = IsAtMost low sum × IsAtMost sum high

-- A row without its source: its terms, and what it asks of their sum.
abbrev pub Constraint : Type 0
Constraint = List Term × RowKind

-- A row as it was given, without its source.
abbrev pub given_constraint : GivenRow → Constraint
given_constraint row = (row.terms, row.kind)

-- A row of a finished system, without its source and its factor.
abbrev pub constraint : Row → Constraint
constraint row = (row.terms, row.kind)

-- The sum of the terms is what the row asks for, at an assignment of the columns.
abbrev pub KeepConstraints : ColumnNumbers → List Constraint → Type 0
KeepConstraints x [] = Unit {0}
KeepConstraints x (c ∷ cs) = KeepsKind c.1 (sum_at x c.0) × KeepConstraints x cs

-- A point of a system: one number for each column in order, that keeps its mark and its sides, and all rows are kept.
pub record IsSystemPoint (system : LinearSystem) (numbers : List Rational) : Type 0 where
  pub columns : KeepColumns system.columns numbers
  pub rows : KeepConstraints (assigned numbers) (map given_constraint system.rows)

-- A point of the linear program that a finished system is, by the same rule.
pub record IsPoint (program : LinearProgram) (numbers : List Rational) : Type 0 where
  pub columns : KeepColumns program.columns numbers
  pub rows : KeepConstraints (assigned numbers) (map constraint program.rows)

-- Of a list of numbers the first, as many as the system has columns.
abbrev pub first_numbers : LinearSystem → List Rational → List Rational
first_numbers system numbers = take (length system.columns) numbers

-- The number of an objective at an assignment; without one it is 0.
abbrev pub objective_number : ColumnNumbers → Option Objective → Rational
objective_number x None = zero
objective_number x (Some objective) = number_at x objective.form

-- The objective of a system at a point.
abbrev pub system_objective_at : LinearSystem → List Rational → Rational
system_objective_at system numbers = objective_number (assigned numbers) system.objective

-- The objective of a linear program at a point: the sum of its terms, and its constant.
abbrev pub objective_at : LinearProgram → List Rational → Rational
objective_at program numbers = plus (sum_at (assigned numbers) program.target.terms) program.target.constant
