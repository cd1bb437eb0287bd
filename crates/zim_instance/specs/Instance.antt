-- What a file of a linear program says, and the points that it allows.
use Rattle.std.specs.Prelude.{◌≡◌, ℕ, Bool, true, List, map, Option, Some, None, unwrap_or, IsTrue, ⊤}
use Rattle.std.specs.List.{AllByRecursion}
use Rattle.zim_rational.specs.Rational.{Rational, zero, times, total, IsAtMost, is_whole}

-- A column: whether it takes whole numbers alone, and its ends, as far as it has them.
pub record Column : Type 0 where
  pub integer : Bool
  pub lower : Option Rational
  pub upper : Option Rational

-- A coefficient and the name of the column that it multiplies.
pub record NamedTerm : Type 0 where
  pub name : List ℕ
  pub coefficient : Rational

-- A row: the sum of its terms lies between its ends, as far as it has them.
pub record Row : Type 0 where
  pub terms : List NamedTerm
  pub low : Option Rational
  pub high : Option Rational

-- An instance: the columns by name, the rows, the objective and whether it is maximised.
pub record Instance : Type 0 where
  pub column : List ℕ → Option Column
  pub rows : List Row
  pub objective : List NamedTerm
  pub maximises : Bool

-- A point: a number for each of some names.
abbrev pub Point : Type 0
Point = List ℕ → Option Rational

-- A number is not below the lower end, if there is one.
abbrev pub IsFrom : Option Rational → Rational → Type 0
IsFrom None _ = ⊤
IsFrom (Some low) q = IsAtMost low q

-- A number is not above the upper end, if there is one.
abbrev pub IsUpTo : Option Rational → Rational → Type 0
IsUpTo None _ = ⊤
IsUpTo (Some high) q = IsAtMost q high

-- A number lies between a column's ends, and is whole where the column is integer.
pub record KeepsNamedColumn (column : Column) (q : Rational) : Type 0 where
  pub lower : IsFrom column.lower q
  pub upper : IsUpTo column.upper q
  pub mark : column.integer ≡ true → IsTrue (is_whole q)

-- A number stands exactly where a column stands, and keeps it.
abbrev pub KeepsName : Option Column → Option Rational → Type 0
KeepsName None None = ⊤
KeepsName None (Some _) = ⊥
KeepsName (Some _) None = ⊥
KeepsName (Some column) (Some q) = KeepsNamedColumn column q

-- The number that a point gives to a name.
abbrev pub number_named : Point → List ℕ → Rational
number_named point name = unwrap_or (point name) zero

-- The sum of a list's terms at a point. Terms of one name add up.
abbrev pub sum_of_named : Point → List NamedTerm → Rational
sum_of_named point terms = total (map (λ t. times t.coefficient (number_named point t.name)) terms)

-- The sum of a row's terms at a point lies between the row's ends.
pub record KeepsRow (point : Point) (row : Row) : Type 0 where
  pub low : IsFrom row.low (sum_of_named point row.terms)
  pub high : IsUpTo row.high (sum_of_named point row.terms)

-- A point of an instance: a number for each column and for nothing else, that keeps all ends, marks and rows.
pub record IsInstancePoint (instance : Instance) (point : Point) : Type 0 where
  pub columns : (name : List ℕ) → KeepsName (instance.column name) (point name)
  pub rows : AllByRecursion (KeepsRow point) instance.rows

-- The objective of an instance at a point.
abbrev pub instance_objective : Instance → Point → Rational
instance_objective instance point = sum_of_named point instance.objective
