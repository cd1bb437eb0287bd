-- The set of two sets, or its fault, as a value.
use Rattle.zim_sets.specs.Operators.{symdiff_of}
use Rattle.zim_operators.proofs.operands.set_apart.Goals as goal

pub returns-in-Set-Set : goal.returns-in-Set-Set
returns-in-Set-Set c =
    rw (c.in-Set-Set.is-0, c.in-Set-Set.is-1) (c.set_or_stop.ensures (symdiff_of c.in-Set-Set.a c.in-Set-Set.b) c.symdiff.ensures)
