-- The LP text that is written for a linear program.
use Rattle.std.specs.Prelude.{ℕ, ◌==◌, pos, false, if◌then◌else◌, List, [], ◌∷◌, ◌++◌, length, map, flat_map, Some, codes, int_lt, option_map}
use Rattle.std.specs.List.{enumerate_from}
use Rattle.zim_rational.specs.Rational.{Rational, zero, one, negate, same}
use Rattle.zim_decimal.specs.Short.{short_text}
use Rattle.zim_linear.specs.Forms.{Term}
use Rattle.zim_rows.specs.declared.rows.Column.{Column}
use Rattle.zim_rows.specs.declared.rows.Row.{Row}
use Rattle.zim_rows.specs.declared.rows.RowKind.{RowKind}
use Rattle.zim_rows.specs.declared.rows.RowKind.TheVariants.{One, Range}
use Rattle.zim_rows.specs.declared.rows.Sense.{Sense}
use Rattle.zim_rows.specs.declared.rows.Sense.TheVariants.{AtLeast, AtMost}
use Rattle.zim_rows.specs.Covered.{written_side}
use Rattle.zim_rows.specs.Program.{LinearProgram}
use Rattle.zim_rows.specs.Named.{column_name, row_name, offset_name, has_offset}
use Rattle.zim_lp.specs.FileText.{WrittenNumber, WrittenTerm, WrittenRow, WrittenColumn, WrittenFile, file_text}

-- The number without its sign.
abbrev pub magnitude : Rational → Rational
magnitude q = if int_lt q.numer (pos 0) then negate q else q

-- A short number, by its sign and the decimal text of its magnitude.
abbrev pub short_number : Rational → WrittenNumber
short_number q = record { negative = int_lt q.numer (pos 0); absolute = short_text (magnitude q) }

-- The name of a file's first column, where so many stand before `one`.
abbrev pub first_name : ℕ → List ℕ
first_name columns = if columns == 0 then offset_name else column_name 1

-- A term as it is written.
abbrev pub written_term : Term → WrittenTerm
written_term t = record { number = short_number t.1; name = column_name t.0 }

-- A list of written terms, or 0 times the file's first column where there is none.
abbrev pub or_zero : ℕ → List WrittenTerm → List WrittenTerm
or_zero columns [] = record { number = short_number zero; name = first_name columns } ∷ []
or_zero columns (t ∷ ts) = t ∷ ts

-- A list of terms in a file with so many columns.
abbrev pub written_terms : ℕ → List Term → List WrittenTerm
written_terms columns terms = or_zero columns (map written_term terms)

-- The constant of an objective as a term of `one`, where it isn't 0.
abbrev pub offset_term : Rational → List WrittenTerm
offset_term constant = if same constant zero then [] else record { number = short_number constant; name = offset_name } ∷ []

-- The objective in a file with so many columns: its terms, and its constant behind them.
abbrev pub written_objective : ℕ → List Term → Rational → List WrittenTerm
written_objective columns terms constant = or_zero columns (map written_term terms ++ offset_term constant)

-- The label of a row, by its number: `rI:`
abbrev pub row_label : ℕ → List ℕ
row_label row = row_name row ++ codes ":"

-- The label of the row for the high side of a range: `rIu:`
abbrev pub high_label : ℕ → List ℕ
high_label row = row_name row ++ codes "u:"

-- A row of terms that compare with a number.
abbrev pub row_compared : List ℕ → List WrittenTerm → Sense → Rational → WrittenRow
row_compared label terms sense right = record { label = label; terms = terms; sense = sense; right = short_number right }

-- The rows that a file has for a row of this number, these terms and this kind: one, and for a range two.
abbrev pub rows_of_kind : ℕ → List WrittenTerm → RowKind → List WrittenRow
rows_of_kind number terms (One sense right) = row_compared (row_label number) terms sense right ∷ []
rows_of_kind number terms (Range low high) =
    row_compared (row_label number) terms AtLeast low ∷ row_compared (high_label number) terms AtMost high ∷ []

-- The rows that a file with so many columns has for a row, by its number.
abbrev pub written_row : ℕ → ℕ × Row → List WrittenRow
written_row columns row = rows_of_kind row.0 (written_terms columns row.1.terms) row.1.kind

-- The rows of a file, numbered from 1.
abbrev pub written_rows : ℕ → List Row → List WrittenRow
written_rows columns rows = flat_map (written_row columns) (enumerate_from 1 rows)

-- A column by its number, with the sides that are short.
abbrev pub lp_column : ℕ × Column → WrittenColumn
lp_column c = record {
  name = column_name c.0;
  integer = c.1.integer;
  lower = option_map short_number (written_side c.1.sides.low);
  upper = option_map short_number (written_side c.1.sides.high);
}

-- The column that is always 1.
abbrev pub written_offset : WrittenColumn
written_offset = record { name = offset_name; integer = false; lower = Some (short_number one); upper = Some (short_number one) }

-- The columns of a file, numbered from 1, and `one` behind them where it stands.
abbrev pub written_columns : LinearProgram → List WrittenColumn
written_columns program =
    map lp_column (enumerate_from 1 program.columns) ++ (if has_offset program then written_offset ∷ [] else [])

-- The file of a program.
abbrev pub written_file : LinearProgram → WrittenFile
written_file program = record {
  maximises = program.target.maximize;
  objective = written_objective (length program.columns) program.target.terms program.target.constant;
  rows = written_rows (length program.columns) program.rows;
  columns = written_columns program;
}

-- The text of a program.
abbrev pub lp_text : LinearProgram → List ℕ
lp_text program = file_text (written_file program)
