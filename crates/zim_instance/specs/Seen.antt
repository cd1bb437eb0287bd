-- What can be written out of an instance: its parts with each number by its numerator and its denominator.
use Rattle.std.specs.Prelude.{ℕ, ℤ, Bool, List, map, Option, option_map}
use Rattle.zim_rational.specs.Rational.{Rational}
use Rattle.zim_instance.specs.Instance.{Column, NamedTerm, Row, Instance}

-- A number by its numerator and its denominator in lowest terms.
abbrev pub Number : Type 0
Number = ℤ × ℕ

-- The numerator and the denominator of a number.
abbrev pub number_seen : Rational → Number
number_seen q = (q.numer, q.denom)

-- A column's mark and ends.
pub record ColumnSeen : Type 0 where
  pub integer : Bool
  pub lower : Option Number
  pub upper : Option Number

-- The mark and the ends of a column.
abbrev pub column_seen : Column → ColumnSeen
column_seen column = record { integer = column.integer; lower = option_map number_seen column.lower; upper = option_map number_seen column.upper }

-- The name and the coefficient of a term.
abbrev pub term_seen : NamedTerm → List ℕ × Number
term_seen term = (term.name, number_seen term.coefficient)

-- A row's terms and ends.
pub record RowSeen : Type 0 where
  pub terms : List (List ℕ × Number)
  pub low : Option Number
  pub high : Option Number

-- The terms and the ends of a row.
abbrev pub row_seen : Row → RowSeen
row_seen row = record { terms = map term_seen row.terms; low = option_map number_seen row.low; high = option_map number_seen row.high }

-- An instance: the columns of some names, the rows, the objective and whether it is maximised.
pub record Seen : Type 0 where
  pub columns : List (Option ColumnSeen)
  pub rows : List RowSeen
  pub objective : List (List ℕ × Number)
  pub maximises : Bool

-- What is seen of an instance, with the columns of these names, each if it has one.
abbrev pub seen : List (List ℕ) → Instance → Seen
seen names instance = record {
  columns = map (λ (name : List ℕ). option_map column_seen (instance.column name)) names;
  rows = map row_seen instance.rows;
  objective = map term_seen instance.objective;
  maximises = instance.maximises;
}
