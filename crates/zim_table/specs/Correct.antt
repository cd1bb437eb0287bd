-- Which programs, columns and names can be written as a table, what table the text is, and the law that the text of each is it.
use Rattle.std.specs.Prelude.{◌≡◌, ◌↔◌, ◌<◌, ◌≤◌, neg_ℤ, if◌then◌else◌, ℕ, List, length, map, All, Some, IfSome, IsSome, IsTrue}
use Rattle.std.specs.List.Sorted.{IsNonDecreasingBy}
use Rattle.zim_instance.specs.Instance.{Point, number_named}
use Rattle.zim_fields.specs.Fields.{IsField}
use Rattle.zim_rational.specs.Rational.{Rational}
use Rattle.zim_rows.specs.declared.rows.Row.{Row}
use Rattle.zim_rows.specs.Program.{LinearProgram, IsProgram}
use Rattle.zim_rows.specs.Named.{column_name}
use Rattle.zim_tuples.specs.declared.elements.Elem.{Elem}
use Rattle.zim_tuples.specs.declared.elements.Elem.TheVariants.{Number, Text}
use Rattle.zim_columns.specs.declared.declared.Declared.{Declared}
use Rattle.zim_columns.specs.Names.{are_rising, IsFoundByName}
use Rattle.zim_columns.specs.Parts.{HasPartsWithin}
use Rattle.zim_table.specs.declared.names.Names.{Names}
use Rattle.zim_table.specs.Tuples.{Component}
use Rattle.zim_table.specs.Tuples.Component.{NumberOf, TextOf}
use Rattle.zim_table.specs.Reader.{Pair, Table, table, numbers_declared}
use Rattle.zim_table.specs.Text.{statement_name, table_text}

-- ---- what can be written

-- A position of a statement whose name is a field.
pub record IsStatement (names : Names) (position : ℕ) : Type 0 where
  pub there : position < length names.statements
  pub name : IsField (statement_name names position)

-- A column of a program of so many, whose name is a field.
pub record IsListed (count : ℕ) (declared : Declared) : Type 0 where
  pub in_system : declared.column ≤ count
  pub name : IsField declared.name

-- Two statements with one name are one.
abbrev pub AreOne : Names → ℕ → ℕ → Type 0
AreOne names position other = statement_name names position ≡ statement_name names other → position ≡ other

-- The declared columns are the program's, their numbers rise from 1 on, and each is found by its name and its tuple, so that no two have the
-- same; the rows' statements never fall, and no two of them have one name; an objective is named exactly where the program has one; all names
-- that are written are fields.
pub record CanBeListed (program : LinearProgram) (columns : List Declared) (names : Names) : Type 0 where
  pub listed : All (IsListed (length program.columns)) columns
  pub rising : IsTrue (are_rising 1 columns)
  pub found : All (IsFoundByName columns) columns
  pub statements : All (λ (r : Row). IsStatement names r.from.statement) program.rows
  pub never_fall : IsNonDecreasingBy (λ (r : Row). r.from.statement) program.rows
  pub named_once : All (λ (r : Row). All (λ (s : Row). AreOne names r.from.statement s.from.statement) program.rows) program.rows
  pub objective : IfSome names.objective (IsStatement names)
  pub aim : IsSome names.objective ↔ IsSome program.target.place

-- ---- the table of a text

-- A component as a table says it.
abbrev pub component_said : Elem → Component
component_said (Number q) = NumberOf q
component_said (Text bytes) = TextOf bytes

-- The column of the files with the name and the tuple of the declared column.
abbrev pub pair_said : Declared → Pair
pair_said declared = record { column = column_name declared.column; name = declared.name; tuple = map component_said declared.tuple }

-- Each declared column, in order, and the factors: that of the objective, and for the MPS its negative where the program maximises.
abbrev pub table_said : LinearProgram → List Declared → Table
table_said program columns = record {
  pairs = map pair_said columns;
  lp_factor = program.target.factor;
  mps_factor = if program.target.maximize then neg_ℤ program.target.factor else program.target.factor;
}

-- The numbers that a point of a file gives to declared columns, in order.
abbrev pub declared_numbers : List Declared → Point → List Rational
declared_numbers columns point = map (λ (d : Declared). number_named point (column_name d.column)) columns

-- The text is that table, by which a point of a file is cut down to the numbers of the declared columns.
pub record SaysNames (text : List ℕ) (program : LinearProgram) (columns : List Declared) : Type 0 where
  pub read : table text ≡ Some (table_said program columns)
  pub cut_is : (point : Point) → numbers_declared (table_said program columns) point ≡ declared_numbers columns point

-- The law of the format: the text of each program that a finished system may be, with declared columns as they are kept and names that can
-- be listed, says these columns and the program's factors.
abbrev pub TextsSayNames : Type 0
TextsSayNames =
    (program : LinearProgram) (columns : List Declared) (names : Names) → IsProgram program.columns program.rows program.target →
    All HasPartsWithin columns → CanBeListed program columns names → SaysNames (table_text program columns names) program columns
