-- When the sides that no decimal writes also stand as rows.
use Rattle.std.specs.Prelude.{ℕ, ◌≡◌, ◌<◌, ◌≤◌, IsFalse, cond, List, [], ◌∷◌, length, map, Option, Some, None, IfSome, Contains}
use Rattle.zim_rational.specs.Rational.{Rational, one}
use Rattle.zim_decimal.specs.Short.{is_short}
use Rattle.zim_rows.specs.declared.rows.Column.{Column}
use Rattle.zim_rows.specs.declared.rows.GivenRow.{GivenRow}
use Rattle.zim_rows.specs.declared.rows.RowKind.TheVariants.{One}
use Rattle.zim_rows.specs.declared.rows.Sense.{Sense}
use Rattle.zim_rows.specs.declared.rows.Sense.TheVariants.{AtLeast, AtMost}
use Rattle.zim_rows.specs.System.{LinearSystem, column_at}
use Rattle.zim_rows.specs.Program.{LinearProgram}

-- Among the rows stands one that says by this sense what column j is: at least the number, or at most.
pub record StandsAsRow (rows : List GivenRow) (j : ℕ) (sense : Sense) (v : Rational) : Type 0 where
  pub row : GivenRow
  pub stands : Contains rows row
  pub terms : row.terms ≡ (j, one) ∷ []
  pub kind : row.kind ≡ One sense v

-- Each side of column j that isn't short stands as a row.
pub record IsCoveredColumn (rows : List GivenRow) (j : ℕ) (column : Column) : Type 0 where
  pub low : IfSome column.sides.low (λ l. IsFalse (is_short l) → StandsAsRow rows j AtLeast l)
  pub high : IfSome column.sides.high (λ h. IsFalse (is_short h) → StandsAsRow rows j AtMost h)

-- Each side that isn't short also stands as a row of its own.
abbrev pub IsCovered : LinearSystem → Type 0
IsCovered system =
    (j : ℕ) → 0 < j → j ≤ length system.columns → IsCoveredColumn system.rows j (column_at system.columns j)

-- A side that a decimal writes; else none, which is how files have it.
abbrev pub written_side : Option Rational → Option Rational
written_side None = None
written_side (Some v) = cond (is_short v) (Some v) None

-- A column with the sides that files have.
abbrev pub written_column : Column → Column
written_column column = record {
  integer = column.integer;
  sides = record { low = written_side column.sides.low; high = written_side column.sides.high };
}

-- A program with the sides that files have.
abbrev pub written_program : LinearProgram → LinearProgram
written_program program = record {
  columns = map written_column program.columns;
  rows = program.rows;
  target = program.target;
}
