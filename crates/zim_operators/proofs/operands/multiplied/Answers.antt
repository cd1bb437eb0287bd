-- The set of two sets, or its fault, as a value.
use Rattle.zim_meaning.specs.Operations.{values_multiplied}
use Rattle.zim_sets.specs.Products.{cross_of}
use Rattle.zim_operators.proofs.operands.multiplied.Goals as goal

pub returns-in-Set-Set : goal.returns-in-Set-Set
unfolding values_multiplied
returns-in-Set-Set c =
    rw (c.in-Set-Set.is-0, c.in-Set-Set.is-1) (c.set_or_stop.ensures (cross_of c.in-Set-Set.a c.in-Set-Set.b) c.cross.ensures)
