-- The names that columns and rows have in files, and the system by name that the files of a linear program say.
use Rattle.std.specs.Prelude.{ℕ, Bool, false, not, ◌||◌, ◌==◌, if◌then◌else◌, List, [], ◌∷◌, ◌++◌, length, map, Option, Some, None, codes, decimal}
use Rattle.std.specs.List.{enumerate_from}
use Rattle.zim_rational.specs.Rational as rational
use Rattle.zim_rational.specs.Rational.{Rational, same}
use Rattle.zim_instance.specs.Instance as instance
use Rattle.zim_instance.specs.System.{NamedColumn}
use Rattle.zim_instance.specs.System as named
use Rattle.zim_linear.specs.Forms.{Term}
use Rattle.zim_rows.specs.declared.rows.Column.{Column}
use Rattle.zim_rows.specs.declared.rows.Row.{Row}
use Rattle.zim_rows.specs.declared.rows.RowKind.{RowKind}
use Rattle.zim_rows.specs.declared.rows.RowKind.TheVariants.{One, Range}
use Rattle.zim_rows.specs.declared.rows.Sense.TheVariants.{AtLeast, AtMost, Equal}
use Rattle.zim_rows.specs.Covered.{written_side}
use Rattle.zim_rows.specs.Program.{LinearProgram}

-- The name of a column by its number: `x1`, `x2` and so on.
abbrev pub column_name : ℕ → List ℕ
column_name column = codes "x" ++ decimal column

-- The name of a row by its number: `r1`, `r2` and so on.
abbrev pub row_name : ℕ → List ℕ
row_name row = codes "r" ++ decimal row

-- The name of the column that is always 1.
abbrev pub offset_name : List ℕ
offset_name = codes "one"

-- A column by its number, with its mark, and with the sides that files have.
abbrev pub named_column : ℕ × Column → NamedColumn
named_column c = record {
  name = column_name c.0;
  column = record { integer = c.1.integer; lower = written_side c.1.sides.low; upper = written_side c.1.sides.high };
}

-- The column `one` is real and always 1.
abbrev pub offset_column : NamedColumn
offset_column = record {
  name = offset_name;
  column = record { integer = false; lower = Some rational.one; upper = Some rational.one };
}

-- `one` stands where there is no other column, and where the objective has a constant other than 0, whose column it is.
abbrev pub has_offset : LinearProgram → Bool
has_offset program = length program.columns == 0 || not (same program.target.constant rational.zero)

-- The columns of a file: those of the program in their order, and `one` behind them where it stands.
abbrev pub file_columns : LinearProgram → List NamedColumn
file_columns program =
    map named_column (enumerate_from 1 program.columns) ++ (if has_offset program then offset_column ∷ [] else [])

-- A term over a column's name.
abbrev pub named_term : Term → instance.NamedTerm
named_term term = record { name = column_name term.0; coefficient = term.1 }

-- The objective over names: its terms, and its constant times `one` where that stands.
abbrev pub named_objective : LinearProgram → List instance.NamedTerm
named_objective program =
    map named_term program.target.terms
    ++ (if has_offset program then record { name = offset_name; coefficient = program.target.constant } ∷ [] else [])

-- The least that the sum of a row's terms may be.
abbrev pub low_end : RowKind → Option Rational
low_end (One AtLeast right) = Some right
low_end (One AtMost right) = None
low_end (One Equal right) = Some right
low_end (Range low high) = Some low

-- The most that the sum of a row's terms may be.
abbrev pub high_end : RowKind → Option Rational
high_end (One AtLeast right) = None
high_end (One AtMost right) = Some right
high_end (One Equal right) = Some right
high_end (Range low high) = Some high

-- A row over the columns' names.
abbrev pub named_row : Row → instance.Row
named_row row = record { terms = map named_term row.terms; low = low_end row.kind; high = high_end row.kind }

-- The program with the columns of its files.
abbrev pub named_system : LinearProgram → named.System
named_system program = record {
  columns = file_columns program;
  rows = map named_row program.rows;
  objective = named_objective program;
  maximises = program.target.maximize;
}

-- The numbers of the file's columns at a point: those of the columns, and 1 for `one` where it stands.
abbrev pub file_numbers : LinearProgram → List Rational → List Rational
file_numbers program numbers = numbers ++ (if has_offset program then rational.one ∷ [] else [])
