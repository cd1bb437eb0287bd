-- Choices among the items of a list: those at given positions, each once, and the ways to choose so many.
use Rattle.std.specs.Prelude.{ℕ, zero, suc, ◌+◌, List, [], ◌∷◌, ◌++◌, Option, None, map, slice_get}
use Rattle.std.specs.List.{flat_map}
use Rattle.std.specs.Option.{option_to_list}

-- the item at a position counted from 1, if there is one
abbrev pub item_at : {X : Type 0} → List X → ℕ → Option X
item_at items zero = None
item_at items (suc before) = slice_get items before

-- the items at positions counted from 1, in the order of the positions; a position without an item is left out
abbrev pub items_at : {X : Type 0} → List X → List ℕ → List X
items_at items positions = flat_map (λ position. option_to_list (item_at items position)) positions

-- the ways to choose n items of a list and keep their order, in lexicographic order of their positions:
-- those with the first item, and then those without it
unfoldable pub choices : {X : Type 0} → ℕ → List X → List (List X)
choices zero items = [] ∷ []
choices (suc n) [] = []
choices (suc n) (item ∷ items) = map (λ rest. item ∷ rest) (choices n items) ++ choices (suc n) items

-- the ways to choose fewer than n items, those of fewer items first
unfoldable pub choices_below : {X : Type 0} → ℕ → List X → List (List X)
choices_below zero items = []
choices_below (suc n) items = choices_below n items ++ choices n items

-- how many ways there are to choose n of so many items
unfoldable pub ways : ℕ → ℕ → ℕ
ways size zero = 1
ways zero (suc n) = 0
ways (suc size) (suc n) = ways size n + ways size (suc n)
