-- What a declaration answers: the column and the rows that it makes, or its fault.
use Rattle.std.specs.Prelude.{ℕ, ◌+◌, ◌≤◌, cond, List, [], ◌∷◌, ◌++◌, length, Option, Some, None, Result, Ok, Err}
use Rattle.zim_answer.specs.Answer.{◌>>=◌}
use Rattle.zim_answer.specs.Gives.{Gives}
use Rattle.zim_fault.specs.declared.faults.Fault.{Fault}
use Rattle.zim_fault.specs.declared.kinds.Kind.TheVariants.{BoundsCross}
use Rattle.zim_rational.specs.Rational.{Rational, one}
use Rattle.zim_decimal.specs.Short.{is_short}
use Rattle.zim_linear.specs.declared.sides.Sides.{Sides}
use Rattle.zim_rows.specs.declared.rows.GivenRow.{GivenRow}
use Rattle.zim_rows.specs.declared.rows.RowFrom.{RowFrom}
use Rattle.zim_rows.specs.declared.rows.RowKind.TheVariants.{One}
use Rattle.zim_rows.specs.declared.rows.Sense.{Sense}
use Rattle.zim_rows.specs.declared.rows.Sense.TheVariants.{AtLeast, AtMost}
use Rattle.zim_rows.specs.declared.faults.EncodeFault.{EncodeFault}
use Rattle.zim_rows.specs.System.{LinearSystem, row_of}
use Rattle.zim_rows.specs.Steps.{Step, step_placed, fault_here, encode_cause}
use Rattle.zim_columns.specs.declared.asks.Ask.{Ask}
use Rattle.zim_columns.specs.declared.declared.Declared.{Declared}
use Rattle.zim_columns.specs.Bounds.{column_asked, bounds_cross}

-- The row that a side of column j makes: what the column is compares with the side. There is one exactly where there is a side that no decimal
-- writes.
abbrev pub side_row : RowFrom → ℕ → Sense → Option Rational → List GivenRow
side_row from j sense None = []
side_row from j sense (Some side) = cond (is_short side) [] (row_of from ((j, one) ∷ []) (One sense side) ∷ [])

-- The rows that the sides of column j make, that of the low side first.
abbrev pub side_rows : RowFrom → ℕ → Sides → List GivenRow
side_rows from j sides = side_row from j AtLeast sides.low ++ side_row from j AtMost sides.high

-- The number of the next column.
abbrev pub next_column : LinearSystem → ℕ
next_column system = length system.columns + 1

-- The step of a declaration: the column of the ask, with its sides as they are, and the rows of the sides.
abbrev pub step_asked : LinearSystem → RowFrom → Ask → Step
step_asked system from ask = record {
  columns = column_asked ask ∷ [];
  rows = side_rows from (next_column system) (column_asked ask).sides;
}

-- An ask as a declared column with this number.
abbrev pub declared_as : ℕ → Ask → Declared
declared_as j ask = record {
  name = ask.name;
  tuple = ask.tuple;
  column = j;
  priority = ask.priority;
  startval = ask.startval;
}

-- A declaration puts its step at the end of the system, and the declared column, with the number of the new one, at the end of the list. It stops
-- at the place where the bounds cross, or else where the step has no room.
unfoldable pub declaring : List Declared → LinearSystem → RowFrom → Ask → Result (List Declared × LinearSystem) Fault
declaring columns system from ask =
    cond
    (bounds_cross ask)
    (Err (fault_here BoundsCross from.place))
    (step_placed from.place system (step_asked system from ask) >>= λ after. Ok (columns ++ declared_as (next_column system) ask ∷ [], after))

-- A call leaves the list and the system that the declaration gives, and its fault is the declaration's. Want of memory is free.
abbrev pub Declares : Result (List Declared × LinearSystem) Fault → List Declared → LinearSystem → Result Unit EncodeFault → Type 0
Declares answer columns system result = Gives (λ _. (columns, system)) encode_cause answer result

-- A listed column is one of the system's.
abbrev pub IsInSystem : LinearSystem → Declared → Type 0
IsInSystem system declared = declared.column ≤ length system.columns
