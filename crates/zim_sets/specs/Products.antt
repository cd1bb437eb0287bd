-- What products and projections of sets give.
use Rattle.std.specs.Prelude.{ℕ, not, List, [], ◌∷◌, ◌++◌, Result, map, filter}
use Rattle.std.specs.List.{flat_map}
use Rattle.zim_sets.specs.Choices.{items_at}
use Rattle.zim_sets.specs.Insertion.{sized}
use Rattle.zim_sets.specs.Sets.{same_tuple}
use Rattle.zim_fault.specs.declared.kinds.Kind.{Kind}
use Rattle.zim_tuples.specs.declared.elements.Elem.{Elem}

-- each tuple of the first list followed by each of the second, the second running faster
abbrev pub crossed : List (List Elem) → List (List Elem) → List (List Elem)
crossed a b = flat_map (λ tuple. map (λ other. tuple ++ other) b) a

-- the set of these
unfoldable pub cross_of : List (List Elem) → List (List Elem) → Result (List (List Elem)) Kind
cross_of a b = sized (crossed a b)

-- the first of equal tuples
unfoldable pub firsts : List (List Elem) → List (List Elem)
firsts [] = []
firsts (tuple ∷ tuples) = tuple ∷ filter (λ other. not (same_tuple tuple other)) (firsts tuples)

-- of each tuple the components at these positions, the first of equal ones
unfoldable pub projected : List (List Elem) → List ℕ → List (List Elem)
projected a positions = firsts (map (λ tuple. items_at tuple positions) a)
