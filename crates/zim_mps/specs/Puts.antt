-- What the functions that put the text are given, and what each puts.
use Rattle.std.specs.Prelude.{ℕ, ◌+◌, ◌≤◌, IsTrue, List, [], ◌∷◌, flat_map, Option, Some, None, ⊤}
use Rattle.zim_rational.specs.Rational.{Rational}
use Rattle.zim_decimal.specs.Short.{is_short}
use Rattle.zim_linear.specs.Forms.{Term}
use Rattle.zim_rows.specs.declared.rows.Column.{Column}
use Rattle.zim_rows.specs.declared.rows.Row.{Row}
use Rattle.zim_rows.specs.Covered.{written_side}
use Rattle.zim_rows.specs.Program.{LinearProgram, IsShortKind}
use Rattle.zim_rows.specs.Named.{column_name, offset_name}
use Rattle.zim_mps.specs.declared.names.ColumnName.{ColumnName}
use Rattle.zim_mps.specs.declared.names.ColumnName.TheVariants.{Numbered, Offset}
use Rattle.zim_mps.specs.Text.{column_text, sides_text, offset_columns}

-- The name of a column.
abbrev pub name_text : ColumnName → List ℕ
name_text (Numbered column) = column_name column
name_text Offset = offset_name

-- Terms in column order, of which the first has at least that column, with short coefficients.
abbrev pub AreCosts : ℕ → List Term → Type 0
AreCosts column [] = ⊤
AreCosts column (t ∷ ts) = (column ≤ t.0) × IsTrue (is_short t.1) × AreCosts (t.0 + 1) ts

-- The numbers of a row's kind are short, and a range is one.
abbrev pub HasShortKind : Row → Type 0
HasShortKind row = IsShortKind row.kind

-- A side that a column has is short.
abbrev pub IsShortSide : Option Rational → Type 0
IsShortSide None = ⊤
IsShortSide (Some q) = IsTrue (is_short q)

-- The lines of the sides that a column has in files.
abbrev pub column_sides_text : ℕ × Column → List ℕ
column_sides_text column = sides_text (column_name column.0) (written_side column.1.sides.low) (written_side column.1.sides.high)

-- The lines of `one` in the section COLUMNS, where it stands.
abbrev pub offset_text : LinearProgram → List ℕ
offset_text program = flat_map column_text (offset_columns program)
