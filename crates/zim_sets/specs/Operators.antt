-- What the operators on sets give: filters and joins of lists.
use Rattle.std.specs.Prelude.{not, cond, List, ◌++◌, Result, Err, filter}
use Rattle.zim_sets.specs.Insertion.{sized}
use Rattle.zim_sets.specs.Sets.{has, are_alike}
use Rattle.zim_fault.specs.declared.kinds.Kind.{Kind}
use Rattle.zim_fault.specs.declared.kinds.Kind.TheVariants.{WrongKind}
use Rattle.zim_tuples.specs.declared.elements.Elem.{Elem}

-- the tuples of the first list that aren't in the second
abbrev pub those_not_in : List (List Elem) → List (List Elem) → List (List Elem)
those_not_in a b = filter (λ tuple. not (has b tuple)) a

-- the tuples of the first list that are in the second
abbrev pub those_in : List (List Elem) → List (List Elem) → List (List Elem)
those_in a b = filter (λ tuple. has b tuple) a

-- a set that is made of two, which agree in length and kinds unless one is empty
unfoldable pub of_alike : List (List Elem) → List (List Elem) → List (List Elem) → Result (List (List Elem)) Kind
of_alike a b made = cond (are_alike a b) (sized made) (Err WrongKind)

-- the first set, and then what is new of the second
unfoldable pub union_of : List (List Elem) → List (List Elem) → Result (List (List Elem)) Kind
union_of a b = of_alike a b (a ++ those_not_in b a)

-- the first set without what is in the second
unfoldable pub without_of : List (List Elem) → List (List Elem) → Result (List (List Elem)) Kind
without_of a b = of_alike a b (those_not_in a b)

-- what of the first set is in the second
unfoldable pub inter_of : List (List Elem) → List (List Elem) → Result (List (List Elem)) Kind
inter_of a b = of_alike a b (those_in a b)

-- the first set without the second, and then the second without the first
unfoldable pub symdiff_of : List (List Elem) → List (List Elem) → Result (List (List Elem)) Kind
symdiff_of a b = of_alike a b (those_not_in a b ++ those_not_in b a)
