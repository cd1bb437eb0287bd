-- A `read` or a table, and the default.
use Rattle.zim_nesting.proofs.CountsLemmas.{given}
use Rattle.zim_nesting.proofs.stmts.depth_of_par_side.Goals as goal

pub returns-in-Read : goal.returns-in-Read
returns-in-Read c = given _ _ (c.then.ensures _ _ c.depth_of_reading.ensures c.depth_of_given.ensures) (simp c.in-Read.is)

pub returns-in-Table : goal.returns-in-Table
returns-in-Table c = given _ _ (c.then-in-Table.ensures _ _ c.depth_of_table.ensures c.depth_of_given-in-Table.ensures) (simp c.in-Table.is)
