-- The set that a list in braces is.
use Rattle.std.specs.Prelude.{cond, List, Result, Err}
use Rattle.zim_fault.specs.declared.kinds.Kind.{Kind}
use Rattle.zim_fault.specs.declared.kinds.Kind.TheVariants.{WrongKind}
use Rattle.zim_sets.specs.Insertion.{sized}
use Rattle.zim_sets.specs.Products.{firsts}
use Rattle.zim_sets.specs.Sets.{has_one_shape}
use Rattle.zim_tuples.specs.declared.elements.Elem.{Elem}

-- the set of the tuples of a list, which have one shape: the first of equal ones
unfoldable pub set_listed : List (List Elem) → Result (List (List Elem)) Kind
set_listed tuples = cond (has_one_shape tuples) (sized (firsts tuples)) (Err WrongKind)
