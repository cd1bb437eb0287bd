-- Which numbers have texts that read back.
use Rattle.std.specs.Prelude.{◌≡◌, Option, Some, None, ⊤}
use Rattle.std.specs.List.{AllByRecursion}
use Rattle.zim_rational.specs.Rational.{Rational, minus}
use Rattle.zim_decimal.specs.Short.{short_text}
use Rattle.zim_decimal.specs.Reading.{number_of_text}
use Rattle.zim_linear.specs.Forms.{Term}
use Rattle.zim_rows.specs.declared.rows.Row.{Row}
use Rattle.zim_rows.specs.declared.rows.RowKind.{RowKind}
use Rattle.zim_rows.specs.declared.rows.RowKind.TheVariants.{One, Range}
use Rattle.zim_rows.specs.Program.{LinearProgram}
use Rattle.zim_mps.specs.Text.{FileColumn, right_of, mps_columns}

-- The decimal text of a number reads back as the number.
abbrev pub IsReadable : Rational → Type 0
IsReadable q = number_of_text (short_text q) ≡ Some q

-- The same of a side that a column has.
abbrev pub IsReadableSide : Option Rational → Type 0
IsReadableSide None = ⊤
IsReadableSide (Some q) = IsReadable q

-- The same of the coefficient of an entry.
abbrev pub IsReadableTerm : Term → Type 0
IsReadableTerm t = IsReadable t.1

-- The same of all numbers of a column in the section COLUMNS.
pub record IsReadableColumn (c : FileColumn) : Type 0 where
  pub cost : IsReadable c.cost
  pub entries : AllByRecursion IsReadableTerm c.entries

-- The same of its sides.
pub record HasReadableSides (c : FileColumn) : Type 0 where
  pub low : IsReadableSide c.low
  pub high : IsReadableSide c.high

-- The same of a row's right side.
abbrev pub HasReadableRight : Row → Type 0
HasReadableRight row = IsReadable (right_of row.kind)

-- The same of what a range's high side is above its low one.
abbrev pub IsReadableRange : RowKind → Type 0
IsReadableRange (One sense right) = ⊤
IsReadableRange (Range low high) = IsReadable (minus high low)

-- The same of a row, if it is a range.
abbrev pub HasReadableRange : Row → Type 0
HasReadableRange row = IsReadableRange row.kind

-- The same of all numbers in the file of a program.
pub record IsReadableProgram (program : LinearProgram) : Type 0 where
  pub columns : AllByRecursion IsReadableColumn (mps_columns program)
  pub sides : AllByRecursion HasReadableSides (mps_columns program)
  pub rights : AllByRecursion HasReadableRight program.rows
  pub ranges : AllByRecursion HasReadableRange program.rows
