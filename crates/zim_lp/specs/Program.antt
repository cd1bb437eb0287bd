-- What an LP text says section by section, and the instance that this means.
use Rattle.std.specs.Prelude.{Bool, if◌then◌else◌, List, ◌++◌, map, fold, flat_map, Option, Some, None}
use Rattle.std.specs.List.{list_any}
use Rattle.std.specs.Str.{bytes_eq}
use Rattle.zim_rational.specs.Rational.{Rational, zero}
use Rattle.zim_instance.specs.Instance.{Column, NamedTerm, Row, Instance}
use Rattle.zim_lp.specs.Words.{Word}

-- A line of `Bounds`: it sets both ends of a column, of which each may be infinite, or the lower end alone.
pub data Bound : Type 0 where
  Ends : Word → Option Rational → Option Rational → Bound
  LowerEnd : Word → Rational → Bound

-- The sections of a text: the objective and its sense, the rows, the bounds and the integer columns.
pub record Program : Type 0 where
  pub maximises : Bool
  pub objective : List NamedTerm
  pub rows : List Row
  pub bounds : List Bound
  pub generals : List Word

-- The name in a bound.
abbrev pub name_of_bound : Bound → Word
name_of_bound (Ends name _ _) = name
name_of_bound (LowerEnd name _) = name

-- A word is one of the names.
abbrev pub is_among : List Word → Word → Bool
is_among names word = list_any (bytes_eq word) names

-- The names in a list of terms.
abbrev pub names_of_terms : List NamedTerm → List Word
names_of_terms terms = map (λ (t : NamedTerm). t.name) terms

-- The names in a text.
abbrev pub names_of_program : Program → List Word
names_of_program program =
    names_of_terms program.objective
    ++ (flat_map (λ (r : Row). names_of_terms r.terms) program.rows
    ++ (map name_of_bound program.bounds ++ program.generals))

-- A column whose ends are set by a bound.
abbrev pub ends_set : Column → Bound → Column
ends_set column (Ends _ lower upper) = record column { lower = lower; upper = upper }
ends_set column (LowerEnd _ lower) = record column { lower = Some lower }

-- The same where the bound is of that name, else the column as it is.
abbrev pub with_bound : Word → Column → Bound → Column
with_bound name column bound = if bytes_eq name (name_of_bound bound) then ends_set column bound else column

-- The column of a name: real and from 0 up, where no bound and no `Generals` says otherwise.
abbrev pub column_of_program : Program → Word → Column
column_of_program program name =
    fold (with_bound name) (record { integer = is_among program.generals name; lower = Some zero; upper = None }) program.bounds

-- The instance of a text. Its columns are the names in it.
abbrev pub instance_of : Program → Instance
instance_of program = record {
  column = λ name. if is_among (names_of_program program) name then Some (column_of_program program name) else None;
  rows = program.rows;
  objective = program.objective;
  maximises = program.maximises;
}
