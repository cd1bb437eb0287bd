-- The bound of `one`, where it stands.
use Rattle.zim_lp.proofs.Pieces.{one_bound_text}
use Rattle.zim_lp.proofs.columns.offset_bound.Goals as goal

pub returns-then-stands : goal.returns-then-stands
returns-then-stands c = rw c.if-stands.true one_bound_text
