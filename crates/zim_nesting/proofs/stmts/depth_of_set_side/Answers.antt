-- A `read` in braces.
use Rattle.zim_nesting.proofs.CountsLemmas.{given}
use Rattle.zim_nesting.proofs.stmts.depth_of_set_side.Goals as goal

pub returns-in-Read : goal.returns-in-Read
returns-in-Read c = given _ _ (c.inside.ensures _ c.depth_of_reading.ensures) (simp c.in-Read.is)
