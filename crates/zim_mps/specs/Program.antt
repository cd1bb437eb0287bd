-- What the lines of an MPS text say, and the instance that this means.
use Rattle.std.specs.Prelude.{Bool, true, false, not, ◌||◌, ◌&&◌, if◌then◌else◌, List, [], ◌∷◌, map, filter, fold, Option, Some, None, is_some, option_map, unwrap_or, find}
use Rattle.std.specs.List.{list_any, list_all, filter_map}
use Rattle.std.specs.Str.{bytes_eq}
use Rattle.zim_rational.specs.Rational.{Rational, zero, plus, negate, at_most, below}
use Rattle.zim_instance.specs.Instance.{Column, NamedTerm, Row, Instance}
use Rattle.zim_fields.specs.Fields.{Field}

-- The kinds of rows: N, G, L and E.
pub data RowKind : Type 0 where
  Free : RowKind
  AtLeast : RowKind
  AtMost : RowKind
  Equal : RowKind

-- A line of ROWS.
pub record RowLine : Type 0 where
  pub kind : RowKind
  pub name : Field

-- A line of COLUMNS: a coefficient in a row, and whether the line stands between the integer markers.
pub record Entry : Type 0 where
  pub column : Field
  pub row : Field
  pub coefficient : Rational
  pub integer : Bool

-- A line of RHS or of RANGES: a number for a row.
pub record Setting : Type 0 where
  pub row : Field
  pub number : Rational

-- A line of BOUNDS: what it says of each end of a column, if it says something. An end may be infinite.
pub record Bound : Type 0 where
  pub column : Field
  pub lower : Option (Option Rational)
  pub upper : Option (Option Rational)

-- The lines of a text, section by section.
pub record Program : Type 0 where
  pub rows : List RowLine
  pub entries : List Entry
  pub rhs : List Setting
  pub ranges : List Setting
  pub bounds : List Bound

-- A name is one of some names.
abbrev pub is_among : List Field → Field → Bool
is_among names name = list_any (bytes_eq name) names

-- No name stands twice.
abbrev pub are_distinct : List Field → Bool
are_distinct [] = true
are_distinct (name ∷ names) = not (is_among names name) && are_distinct names

-- An N row.
abbrev pub is_free : RowKind → Bool
is_free Free = true
is_free AtLeast = false
is_free AtMost = false
is_free Equal = false

-- A G row.
abbrev pub is_at_least : RowKind → Bool
is_at_least Free = false
is_at_least AtLeast = true
is_at_least AtMost = false
is_at_least Equal = false

-- The names of the rows whose kind passes a test.
abbrev pub names_of_rows : (RowKind → Bool) → List RowLine → List Field
names_of_rows test rows = map (λ (r : RowLine). r.name) (filter (λ (r : RowLine). test r.kind) rows)

-- The names of the columns, each as often as it has lines.
abbrev pub names_of_columns : List Entry → List Field
names_of_columns entries = map (λ (e : Entry). e.column) entries

-- A column has a line between the markers.
abbrev pub is_integer : List Entry → Field → Bool
is_integer entries name = list_any (λ (e : Entry). bytes_eq name e.column && e.integer) entries

-- A line of the bounds says something of a column's lower end.
abbrev pub says_lower : List Bound → Field → Bool
says_lower bounds name = list_any (λ (b : Bound). bytes_eq name b.column && is_some b.lower) bounds

-- A line of the bounds says something of a column's upper end.
abbrev pub says_upper : List Bound → Field → Bool
says_upper bounds name = list_any (λ (b : Bound). bytes_eq name b.column && is_some b.upper) bounds

-- Settings are for different rows among those with the names.
abbrev pub are_settings : List Field → List Setting → Bool
are_settings names settings =
    are_distinct (map (λ (s : Setting). s.row) settings) && list_all (λ (s : Setting). is_among names s.row) settings

-- All lines of a column stand between the markers, or none; and of a column between them each end is said.
abbrev pub is_marked_well : Program → Entry → Bool
is_marked_well program e =
    not (is_integer program.entries e.column)
    || (e.integer && (says_lower program.bounds e.column && says_upper program.bounds e.column))

-- The first of some lines is of that column.
abbrev pub is_first_column : Field → List Entry → Bool
is_first_column name [] = false
is_first_column name (e ∷ _) = bytes_eq name e.column

-- The lines of each column stand together: behind a line the next one is of its column, or none is.
abbrev pub are_together : List Entry → Bool
are_together [] = true
are_together (e ∷ es) = (is_first_column e.column es || not (is_among (names_of_columns es) e.column)) && are_together es

-- Two lines are of one column and one row.
abbrev pub are_one_place : Entry → Entry → Bool
are_one_place d e = bytes_eq d.column e.column && bytes_eq d.row e.row

-- No two lines are of one column and one row.
abbrev pub are_different_places : List Entry → Bool
are_different_places [] = true
are_different_places (e ∷ es) = not (list_any (are_one_place e) es) && are_different_places es

-- No two lines of the bounds say something of one end of one column.
abbrev pub are_said_once : List Bound → Bool
are_said_once [] = true
are_said_once (b ∷ bs) =
    not (is_some b.lower && says_lower bs b.column) && (not (is_some b.upper && says_upper bs b.column) && are_said_once bs)

-- What a line says of an upper end is a number below 0.
abbrev pub is_below_zero : Option (Option Rational) → Bool
is_below_zero None = false
is_below_zero (Some None) = false
is_below_zero (Some (Some q)) = below q zero

-- A line sets no upper end below 0, unless a line says something of the column's lower end. Where none does, programs that
-- read MPS take the lower end for 0 or for infinite.
abbrev pub has_one_reading : List Bound → Bound → Bool
has_one_reading bounds b = says_lower bounds b.column || not (is_below_zero b.upper)

-- Rows have different names; each line of the other sections names a row or a column that is there, ranges a G row; a column's
-- lines stand together, and nothing is said twice.
abbrev pub is_consistent : Program → Bool
is_consistent program =
    are_distinct (names_of_rows (λ _. true) program.rows)
    && (list_all (λ (e : Entry). is_among (names_of_rows (λ _. true) program.rows) e.row) program.entries
    && (are_settings (names_of_rows (λ k. not (is_free k)) program.rows) program.rhs
    && (are_settings (names_of_rows is_at_least program.rows) program.ranges
    && (list_all (λ (b : Bound). is_among (names_of_columns program.entries) b.column) program.bounds
    && (list_all (is_marked_well program) program.entries
    && (are_together program.entries
    && (are_different_places program.entries
    && (are_said_once program.bounds && list_all (has_one_reading program.bounds) program.bounds))))))))

-- The number that settings have for a row, if they have one.
abbrev pub setting_of : List Setting → Field → Option Rational
setting_of settings row = option_map (λ (s : Setting). s.number) (find (λ (s : Setting). bytes_eq row s.row) settings)

-- The terms of a row: the coefficients of its lines in COLUMNS.
abbrev pub terms_of_row : List Entry → Field → List NamedTerm
terms_of_row entries row =
    map (λ (e : Entry). let term : NamedTerm = record { name = e.column; coefficient = e.coefficient } in term) (filter (λ (e : Entry). bytes_eq row e.row) entries)

-- The absolute value.
abbrev pub without_sign : Rational → Rational
without_sign q = if at_most zero q then q else negate q

-- A row by its kind, its terms, its right side and its range: a G row with right side b and range r is from b to b + |r|.
abbrev pub row_by_kind : RowKind → List NamedTerm → Rational → Option Rational → Option Row
row_by_kind Free terms right range = None
row_by_kind AtLeast terms right range = Some (record { terms = terms; low = Some right; high = option_map (λ r. plus right (without_sign r)) range })
row_by_kind AtMost terms right range = Some (record { terms = terms; low = None; high = Some right })
row_by_kind Equal terms right range = Some (record { terms = terms; low = Some right; high = Some right })

-- The row of a line of ROWS, if it is one of G, L and E. A right side is 0 unless a line says otherwise.
abbrev pub row_of_line : Program → RowLine → Option Row
row_of_line program line =
    row_by_kind line.kind (terms_of_row program.entries line.name) (unwrap_or (setting_of program.rhs line.name) zero) (setting_of program.ranges line.name)

-- A column whose ends a bound sets, where it is of that name.
abbrev pub with_bound : Field → Column → Bound → Column
with_bound name column bound =
    if bytes_eq name bound.column
    then record column { lower = unwrap_or bound.lower column.lower; upper = unwrap_or bound.upper column.upper }
    else column

-- The column of a name. Where the bounds say nothing else it is from 0 up.
abbrev pub column_of_program : Program → Field → Column
column_of_program program name =
    fold (with_bound name) (record { integer = is_integer program.entries name; lower = Some zero; upper = None }) program.bounds

-- The instance of a program with that objective row. It is minimised.
abbrev pub instance_of : Program → Field → Instance
instance_of program objective = record {
  column = λ name. if is_among (names_of_columns program.entries) name then Some (column_of_program program name) else None;
  rows = filter_map (row_of_line program) program.rows;
  objective = terms_of_row program.entries objective;
  maximises = false;
}

-- The one name of a list that has one.
abbrev pub only_name : List Field → Option Field
only_name [] = None
only_name (name ∷ []) = Some name
only_name (_ ∷ _ ∷ _) = None

-- The instance of a consistent program with one N row, which is the objective.
abbrev pub meaning : Program → Option Instance
meaning program =
    if is_consistent program then option_map (instance_of program) (only_name (names_of_rows is_free program.rows)) else None
