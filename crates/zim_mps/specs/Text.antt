-- The MPS text that is written for a linear program.
use Rattle.std.specs.Prelude.{ℕ, ◌==◌, Bool, true, false, if◌then◌else◌, List, [], ◌∷◌, ◌++◌, map, flat_map, find, Option, Some, None, option_map, unwrap_or, codes}
use Rattle.std.specs.List.{enumerate_from, list_any}
use Rattle.zim_rational.specs.Rational.{Rational, zero, one, negate, minus}
use Rattle.zim_decimal.specs.Short.{short_text}
use Rattle.zim_linear.specs.Forms.{Term}
use Rattle.zim_rows.specs.declared.rows.Column.{Column}
use Rattle.zim_rows.specs.declared.rows.Row.{Row}
use Rattle.zim_rows.specs.declared.rows.RowKind.{RowKind}
use Rattle.zim_rows.specs.declared.rows.RowKind.TheVariants.{One, Range}
use Rattle.zim_rows.specs.declared.rows.Sense.TheVariants.{AtLeast, AtMost, Equal}
use Rattle.zim_rows.specs.declared.rows.Target.{Target}
use Rattle.zim_rows.specs.Covered.{written_side}
use Rattle.zim_rows.specs.Entries.{entries_of_column}
use Rattle.zim_rows.specs.Program.{LinearProgram}
use Rattle.zim_rows.specs.Named.{column_name, row_name, offset_name, has_offset}

-- A row and its number, from 1.
abbrev pub NumberedRow : Type 0
NumberedRow = ℕ × Row

-- A column as it stands in the file: its name, whether it is integer, its sides, its number in the objective, and for
-- each row that has it the row's number and the coefficient there.
pub record FileColumn : Type 0 where
  pub name : List ℕ
  pub integer : Bool
  pub low : Option Rational
  pub high : Option Rational
  pub cost : Rational
  pub entries : List Term

-- The coefficient of a column in terms, which is 0 where they don't have it.
abbrev pub coefficient_of : List Term → ℕ → Rational
coefficient_of terms column = unwrap_or (option_map (λ (t : Term). t.1) (find (λ (t : Term). t.0 == column) terms)) zero

-- A number of the objective as it is written: its negative where the program maximises.
abbrev pub minimised : Bool → Rational → Rational
minimised maximises q = if maximises then negate q else q

-- The number of a column in the objective, as it is written.
abbrev pub cost_of : Target → ℕ → Rational
cost_of target column = minimised target.maximize (coefficient_of target.terms column)

-- A column of a program with its number, as it stands in the file.
abbrev pub numbered_column : LinearProgram → ℕ × Column → FileColumn
numbered_column program column = record {
  name = column_name column.0;
  integer = column.1.integer;
  low = written_side column.1.sides.low;
  high = written_side column.1.sides.high;
  cost = cost_of program.target column.0;
  entries = entries_of_column program.rows column.0;
}

-- The column `one`, whose number in the objective is the objective's constant.
abbrev pub mps_offset_column : LinearProgram → FileColumn
mps_offset_column program = record {
  name = offset_name;
  integer = false;
  low = Some one;
  high = Some one;
  cost = minimised program.target.maximize program.target.constant;
  entries = [];
}

-- The columns of the program in their order.
abbrev pub numbered_columns : LinearProgram → List FileColumn
numbered_columns program = map (numbered_column program) (enumerate_from 1 program.columns)

-- The column `one`, where it stands.
abbrev pub offset_columns : LinearProgram → List FileColumn
offset_columns program = if has_offset program then mps_offset_column program ∷ [] else []

-- The columns of the file: those of the program, and `one` behind them where it stands.
abbrev pub mps_columns : LinearProgram → List FileColumn
mps_columns program = numbered_columns program ++ offset_columns program

-- The blank and the letter of a row, and a blank: ` G `, ` L ` or ` E `, for a range ` G `
abbrev pub row_kind_text : RowKind → List ℕ
row_kind_text (One AtLeast right) = codes " G "
row_kind_text (One AtMost right) = codes " L "
row_kind_text (One Equal right) = codes " E "
row_kind_text (Range low high) = codes " G "

-- ` G rI`, ` L rI` or ` E rI`
abbrev pub row_text : NumberedRow → List ℕ
row_text row = row_kind_text row.1.kind ++ (row_name row.0 ++ codes "\n")

-- ` NAME obj q`
abbrev pub cost_text : List ℕ → Rational → List ℕ
cost_text name cost = codes " " ++ (name ++ (codes " obj " ++ (short_text cost ++ codes "\n")))

-- ` NAME rI q`, of an entry: a row's number and a coefficient
abbrev pub entry_text : List ℕ → Term → List ℕ
entry_text name entry = codes " " ++ (name ++ (codes " " ++ (row_name entry.0 ++ (codes " " ++ (short_text entry.1 ++ codes "\n")))))

-- The lines of a column: its number in the objective, 0 too, and then its coefficient in each row that has it.
abbrev pub column_text : FileColumn → List ℕ
column_text column = cost_text column.name column.cost ++ flat_map (entry_text column.name) column.entries

-- The line between two columns: a marker where integer columns begin, and one where they end.
abbrev pub marker_text : Bool → Bool → List ℕ
marker_text false true = codes " MARKER 'MARKER' 'INTORG'\n"
marker_text true false = codes " MARKER 'MARKER' 'INTEND'\n"
marker_text false false = []
marker_text true true = []

-- The lines of columns behind one that is integer or not, each column behind its marker, if it has one.
abbrev pub columns_front : Bool → List FileColumn → List ℕ
columns_front before [] = []
columns_front before (c ∷ cs) = marker_text before c.integer ++ (column_text c ++ columns_front c.integer cs)

-- Whether the last of columns is integer, and without columns, whether the one before is.
abbrev pub last_mark : Bool → List FileColumn → Bool
last_mark before [] = before
last_mark before (c ∷ cs) = last_mark c.integer cs

-- The lines of all columns. The integer columns end with the last column at the latest.
abbrev pub columns_text : List FileColumn → List ℕ
columns_text columns = columns_front false columns ++ marker_text (last_mark false columns) false

-- The right side of a row, for a range its low side.
abbrev pub right_of : RowKind → Rational
right_of (One sense right) = right
right_of (Range low high) = low

-- ` RHS rI q`
abbrev pub right_text : NumberedRow → List ℕ
right_text row = codes " RHS " ++ (row_name row.0 ++ (codes " " ++ (short_text (right_of row.1.kind) ++ codes "\n")))

-- ` RNG rI q`
abbrev pub range_line : ℕ → Rational → List ℕ
range_line number q = codes " RNG " ++ (row_name number ++ (codes " " ++ (short_text q ++ codes "\n")))

-- The line of a range, q being what its high side is above its low one; nothing for another row.
abbrev pub range_text_of : ℕ → RowKind → List ℕ
range_text_of number (One sense right) = []
range_text_of number (Range low high) = range_line number (minus high low)

-- The same of a row.
abbrev pub range_text : NumberedRow → List ℕ
range_text row = range_text_of row.0 row.1.kind

-- A range.
abbrev pub is_range : RowKind → Bool
is_range (One sense right) = false
is_range (Range low high) = true

-- Some row is a range.
abbrev pub has_range : List Row → Bool
has_range rows = list_any (λ (r : Row). is_range r.kind) rows

-- The section of the ranges, where there is one.
abbrev pub ranges_text : List Row → List ℕ
ranges_text rows = if has_range rows then codes "RANGES\n" ++ flat_map range_text (enumerate_from 1 rows) else []

-- ` LO BND NAME q` or ` UP BND NAME q`
abbrev pub end_text : List ℕ → List ℕ → Rational → List ℕ
end_text word name q = codes " " ++ (word ++ (codes " BND " ++ (name ++ (codes " " ++ (short_text q ++ codes "\n")))))

-- ` PL BND NAME`, ` MI BND NAME` or ` FR BND NAME`
abbrev pub infinite_text : List ℕ → List ℕ → List ℕ
infinite_text word name = codes " " ++ (word ++ (codes " BND " ++ (name ++ codes "\n")))

-- The lines of a column's sides.
abbrev pub sides_text : List ℕ → Option Rational → Option Rational → List ℕ
sides_text name (Some l) (Some u) = end_text (codes "LO") name l ++ end_text (codes "UP") name u
sides_text name (Some l) None = end_text (codes "LO") name l ++ infinite_text (codes "PL") name
sides_text name None (Some u) = infinite_text (codes "MI") name ++ end_text (codes "UP") name u
sides_text name None None = infinite_text (codes "FR") name

-- The same of a column of the file.
abbrev pub bound_text : FileColumn → List ℕ
bound_text column = sides_text column.name column.low column.high

-- The text of a program.
abbrev pub mps_text : LinearProgram → List ℕ
mps_text program =
    codes "NAME zimplc\nROWS\n N obj\n"
    ++ (flat_map row_text (enumerate_from 1 program.rows)
    ++ (codes "COLUMNS\n"
    ++ (columns_text (mps_columns program)
    ++ (codes "RHS\n"
    ++ (flat_map right_text (enumerate_from 1 program.rows)
    ++ (ranges_text program.rows ++ (codes "BOUNDS\n" ++ (flat_map bound_text (mps_columns program) ++ codes "ENDATA\n"))))))))
