-- What a set is after a tuple is inserted.
use Rattle.std.specs.Prelude.{Bool, cond, nat_le, length, List, [], ◌∷◌, ◌++◌, Result, Ok, Err}
use Rattle.zim_sets.specs.Sets.{has, fits, most}
use Rattle.zim_fault.specs.declared.kinds.Kind.{Kind}
use Rattle.zim_fault.specs.declared.kinds.Kind.TheVariants.{WrongKind, SetSize}
use Rattle.zim_tuples.specs.declared.elements.Elem.{Elem}

-- the tuples as a set, which has at most so many
unfoldable pub sized : List (List Elem) → Result (List (List Elem)) Kind
sized tuples = cond (nat_le (length tuples) most) (Ok tuples) (Err SetSize)

-- the set with the tuple at its end, or as it is where the tuple is there
unfoldable pub inserted : List (List Elem) → List Elem → Result (List (List Elem)) Kind
inserted tuples tuple = cond (fits tuples tuple) (cond (has tuples tuple) (Ok tuples) (sized (tuples ++ tuple ∷ []))) (Err WrongKind)

-- the set with the tuple inserted where the test holds of it
unfoldable pub inserted_where : (List Elem → Bool) → List (List Elem) → List Elem → Result (List (List Elem)) Kind
inserted_where test tuples tuple = cond (test tuple) (inserted tuples tuple) (Ok tuples)
