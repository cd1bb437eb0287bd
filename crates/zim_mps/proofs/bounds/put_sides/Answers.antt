-- The lines of each case.
use Rattle.zim_gate.proofs.PenLaws.{◌▸◌}
use Rattle.zim_mps.proofs.bounds.put_sides.Goals as goal

pub returns-in-Some-Some : goal.returns-in-Some-Some
returns-in-Some-Some g c =
    rw (c.in-Some-Some.is-0, c.in-Some-Some.is-1) (c.put_end.ensures ▸ c.put_end-in-Some-Some.ensures)

pub returns-in-Some-None : goal.returns-in-Some-None
returns-in-Some-None g c =
    rw (c.in-Some-None.is-0, c.in-Some-None.is-1) (c.put_end-in-Some-None.ensures ▸ c.put_infinite.ensures)

pub returns-in-None-Some : goal.returns-in-None-Some
returns-in-None-Some g c =
    rw (c.in-None-Some.is-0, c.in-None-Some.is-1) (c.put_infinite-in-None-Some.ensures ▸ c.put_end-in-None-Some.ensures)
