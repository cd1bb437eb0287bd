-- The set of two sets, or its fault, as a value.
use Rattle.zim_meaning.specs.Operations.{values_added}
use Rattle.zim_sets.specs.Operators.{union_of}
use Rattle.zim_operators.proofs.operands.added.Goals as goal

pub returns-in-Set-Set : goal.returns-in-Set-Set
unfolding values_added
returns-in-Set-Set c =
    rw (c.in-Set-Set.is-0, c.in-Set-Set.is-1) (c.set_or_stop.ensures (union_of c.in-Set-Set.a c.in-Set-Set.b) c.union.ensures)
