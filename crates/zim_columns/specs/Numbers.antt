-- The numbers of columns as they are kept, by name and tuple.
use Rattle.std.specs.Prelude.{ℕ, ◌≡◌, Bool, cond, nat_eq, List, [], ◌∷◌, Option, Some, None, option_and_then}
use Rattle.std.specs.Cmp.Lexicographic.{pointwise}
use Rattle.indexmap.specs.IndexMap.{IndexMap, get}
use Rattle.zim_tuples.specs.Elements.{same_element}
use Rattle.zim_tuples.specs.declared.elements.Elem.{Elem}
use Rattle.zim_columns.specs.declared.numbers.NumberTable.{NumberTable}
use Rattle.zim_columns.specs.Names.{are_same}

module _ {S T : Type 0} where
  -- The number under a name and an index.
  abbrev pub indexed_number : IndexMap (List ℕ) (IndexMap (List Elem) ℕ S) T → List ℕ → List Elem → Option ℕ
  indexed_number indexed name tuple = option_and_then (λ (numbers : IndexMap (List Elem) ℕ S). get (pointwise same_element) numbers tuple) (get (pointwise nat_eq) indexed name)

  -- The later map has this number under the name and the index, and has all else as it was.
  abbrev pub AssignsIndexedNumber : IndexMap (List ℕ) (IndexMap (List Elem) ℕ S) T → IndexMap (List ℕ) (IndexMap (List Elem) ℕ S) T → List ℕ → List Elem → ℕ → Type 0
  AssignsIndexedNumber old new name tuple number =
      (other : List ℕ) (further : List Elem) → indexed_number new other further ≡ cond (are_same (name, tuple) (other, further)) (Some number) (indexed_number old other further)

  -- The later map has what it had.
  abbrev pub KeepsIndexedNumbers : IndexMap (List ℕ) (IndexMap (List Elem) ℕ S) T → IndexMap (List ℕ) (IndexMap (List Elem) ℕ S) T → Type 0
  KeepsIndexedNumbers old new = (other : List ℕ) (further : List Elem) → indexed_number new other further ≡ indexed_number old other further

-- The number under a name and a tuple.
abbrev pub table_number : NumberTable → List ℕ → List Elem → Option ℕ
table_number table name [] = get (pointwise nat_eq) table.single name
table_number table name (e ∷ es) = indexed_number table.indexed name (e ∷ es)

-- The table has no numbers.
abbrev pub HasNoNumber : NumberTable → Type 0
HasNoNumber table = (name : List ℕ) (tuple : List Elem) → table_number table name tuple ≡ None

-- The later table has this number under the name and the tuple, and has all else as it was.
abbrev pub AssignsNumber : NumberTable → NumberTable → List ℕ → List Elem → ℕ → Type 0
AssignsNumber old new name tuple number =
    (other : List ℕ) (further : List Elem) → table_number new other further ≡ cond (are_same (name, tuple) (other, further)) (Some number) (table_number old other further)

-- The later table has what it had.
abbrev pub KeepsNumbers : NumberTable → NumberTable → Type 0
KeepsNumbers old new = (other : List ℕ) (further : List Elem) → table_number new other further ≡ table_number old other further
