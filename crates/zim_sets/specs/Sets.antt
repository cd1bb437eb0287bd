-- Which lists of tuples are sets, and what a set asks of a tuple.
use Rattle.std.specs.Prelude.{ℕ, ◌≤◌, ◌≡◌, Bool, true, false, List, [], ◌∷◌, length}
use Rattle.std.specs.Cmp.Lexicographic.{pointwise}
use Rattle.std.specs.List.{list_any, list_all, IsDistinct}
use Rattle.zim_tuples.specs.Elements.{same_element}
use Rattle.zim_tuples.specs.declared.elements.Elem.{Elem}
use Rattle.zim_tuples.specs.declared.elements.Elem.TheVariants.{Number, Text}

-- how many tuples a set has at most, and how many sets a family
abbrev pub most : ℕ
most = 1048576

-- whether two elements are both numbers or both texts
abbrev pub same_kind : Elem → Elem → Bool
same_kind (Number p) (Number q) = true
same_kind (Number p) (Text t) = false
same_kind (Text s) (Number q) = false
same_kind (Text s) (Text t) = true

-- whether two tuples have as many components, of the same kind at each position
abbrev pub same_shape : List Elem → List Elem → Bool
same_shape = pointwise same_kind

-- whether two tuples are the same
abbrev pub same_tuple : List Elem → List Elem → Bool
same_tuple = pointwise same_element

-- whether a tuple is among those of a list
abbrev pub has : List (List Elem) → List Elem → Bool
has tuples tuple = list_any (same_tuple tuple) tuples

-- whether a tuple has the shape of the tuples there, if there are any
abbrev pub fits : List (List Elem) → List Elem → Bool
fits [] tuple = true
fits (first ∷ others) tuple = same_shape first tuple

-- whether the tuples of two sets have one shape, or one of the sets is empty
abbrev pub are_alike : List (List Elem) → List (List Elem) → Bool
are_alike [] b = true
are_alike (first ∷ others) [] = true
are_alike (first ∷ others) (second ∷ more) = same_shape first second

-- whether the tuples of a list have one shape
abbrev pub has_one_shape : List (List Elem) → Bool
has_one_shape [] = true
has_one_shape (first ∷ others) = list_all (same_shape first) others

-- a list of tuples is a set: it isn't too long, its tuples have one shape, and none stands twice
pub record IsSet (tuples : List (List Elem)) : Type 0 where
  pub few : length tuples ≤ most
  pub one_shape : has_one_shape tuples ≡ true
  pub distinct : IsDistinct same_tuple tuples
