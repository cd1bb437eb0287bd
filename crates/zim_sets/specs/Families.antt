-- Which sets a family of subsets has.
use Rattle.std.specs.Prelude.{ℕ, ◌+◌, cond, nat_le, length, List, Result, Ok, Err}
use Rattle.zim_sets.specs.Choices.{choices, choices_below}
use Rattle.zim_sets.specs.Sets.{most}
use Rattle.zim_fault.specs.declared.kinds.Kind.{Kind}
use Rattle.zim_fault.specs.declared.kinds.Kind.TheVariants.{SetSize}
use Rattle.zim_tuples.specs.declared.elements.Elem.{Elem}

-- the sets as a family, which has at most so many
unfoldable pub family_of : List (List (List Elem)) → Result (List (List (List Elem))) Kind
family_of sets = cond (nat_le (length sets) most) (Ok sets) (Err SetSize)

-- the subsets of n tuples in lexicographic order of their positions, each in the set's order
unfoldable pub subsets_of : List (List Elem) → ℕ → Result (List (List (List Elem))) Kind
subsets_of a n = family_of (choices n a)

-- those of no tuple, then those of one, and so on up to the set itself
unfoldable pub powerset_of : List (List Elem) → Result (List (List (List Elem))) Kind
powerset_of a = family_of (choices_below (length a + 1) a)
