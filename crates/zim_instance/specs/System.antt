-- A list of columns with names, with rows and an objective over them, and when an instance says it.
use Rattle.std.specs.Prelude.{◌≡◌, ◌↔◌, ℕ, Bool, false, if◌then◌else◌, List, [], ◌∷◌, map, Option, Some, None, ⊤}
use Rattle.std.specs.List.{AllByRecursion}
use Rattle.std.specs.Str.{bytes_eq}
use Rattle.zim_rational.specs.Rational.{Rational}
use Rattle.zim_instance.specs.Instance.{Column, NamedTerm, Row, Instance, Point, KeepsNamedColumn, KeepsRow, number_named, sum_of_named}

-- A column with its name.
pub record NamedColumn : Type 0 where
  pub name : List ℕ
  pub column : Column

-- Columns in an order, rows and an objective over their names, and whether it is maximised.
pub record System : Type 0 where
  pub columns : List NamedColumn
  pub rows : List Row
  pub objective : List NamedTerm
  pub maximises : Bool

-- The column that has the name, if one has.
abbrev pub column_named : List NamedColumn → List ℕ → Option Column
column_named [] _ = None
column_named (c ∷ cs) name = if bytes_eq name c.name then Some c.column else column_named cs name

-- No two columns have the same name.
abbrev pub HasDistinctNames : List NamedColumn → Type 0
HasDistinctNames [] = ⊤
HasDistinctNames (c ∷ cs) = AllByRecursion (λ (d : NamedColumn). bytes_eq c.name d.name ≡ false) cs × HasDistinctNames cs

-- An instance has the columns of the system and no other, and at every point the same rows hold and the
-- objective is the same.
pub record Says (instance : Instance) (system : System) : Type 0 where
  pub columns : (name : List ℕ) → instance.column name ≡ column_named system.columns name
  pub rows : (point : Point) → AllByRecursion (KeepsRow point) instance.rows ↔ AllByRecursion (KeepsRow point) system.rows
  pub objective : (point : Point) → sum_of_named point instance.objective ≡ sum_of_named point system.objective
  pub maximises : instance.maximises ≡ system.maximises

-- The numbers that a point gives to the columns, in their order.
abbrev pub numbers_of : Point → List NamedColumn → List Rational
numbers_of point columns = map (λ (c : NamedColumn). number_named point c.name) columns

-- The point that gives the numbers of a list to the columns in their order.
abbrev pub point_of : List NamedColumn → List Rational → Point
point_of [] _ _ = None
point_of (c ∷ cs) [] _ = None
point_of (c ∷ cs) (q ∷ qs) name = if bytes_eq name c.name then Some q else point_of cs qs name

-- Each column has a number in the list, that keeps its ends and mark, and there are no further numbers.
abbrev pub KeepsColumns : List NamedColumn → List Rational → Type 0
KeepsColumns [] [] = ⊤
KeepsColumns [] (_ ∷ _) = ⊥
KeepsColumns (_ ∷ _) [] = ⊥
KeepsColumns (c ∷ cs) (q ∷ qs) = KeepsNamedColumn c.column q × KeepsColumns cs qs

-- The numbers keep all ends, marks and rows of the system.
pub record IsSolution (system : System) (numbers : List Rational) : Type 0 where
  pub columns : KeepsColumns system.columns numbers
  pub rows : AllByRecursion (KeepsRow (point_of system.columns numbers)) system.rows
