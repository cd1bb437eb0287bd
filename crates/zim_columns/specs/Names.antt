-- By what declared columns are known: their names and tuples.
use Rattle.std.specs.Prelude.{ℕ, suc, ◌≡◌, ◌&&◌, Bool, true, IsTrue, List, [], ◌∷◌, nat_eq, nat_le, Option, Some}
use Rattle.std.specs.List.{find}
use Rattle.std.specs.Option.{option_map}
use Rattle.std.specs.Cmp.Lexicographic.{pointwise}
use Rattle.zim_tuples.specs.Elements.{same_element}
use Rattle.zim_tuples.specs.declared.elements.Elem.{Elem}
use Rattle.zim_columns.specs.declared.declared.Declared.{Declared}

-- A name with a tuple.
abbrev pub Named : Type 0
Named = List ℕ × List Elem

-- Two names are the same, and so are the tuples with them.
abbrev pub are_same : Named → Named → Bool
are_same one other = pointwise nat_eq one.0 other.0 && pointwise same_element one.1 other.1

-- A declared column has this name and this tuple.
abbrev pub is_named : List ℕ → List Elem → Declared → Bool
is_named name tuple declared = are_same (name, tuple) (declared.name, declared.tuple)

-- The column that is declared with this name and this tuple, if there is one.
abbrev pub column_declared : List Declared → List ℕ → List Elem → Option ℕ
column_declared columns name tuple = option_map (λ (d : Declared). d.column) (find (is_named name tuple) columns)

-- The numbers of the columns rise from the first on.
abbrev pub are_rising : ℕ → List Declared → Bool
are_rising first [] = true
are_rising first (d ∷ ds) = nat_le first d.column && are_rising (suc d.column) ds

-- A declared column is found by its name and its tuple.
abbrev pub IsFoundByName : List Declared → Declared → Type 0
IsFoundByName columns declared = column_declared columns declared.name declared.tuple ≡ Some declared.column

-- A name with a tuple is another with its own.
pub record IsKnownBy (name : List ℕ) (tuple : List Elem) (other : List ℕ) (further : List Elem) : Type 0 where
  pub names : name ≡ other
  pub tuples : tuple ≡ further

-- The name of a declared column with its tuple.
abbrev pub known_by : Declared → Named
known_by declared = (declared.name, declared.tuple)
