-- The file, the template and the options.
use Rattle.zim_nesting.proofs.CountsLemmas.{given}
use Rattle.zim_nesting.proofs.stmts.depth_of_reading.Goals as goal

pub returns : goal.returns
returns c = given _ _ (c.then.ensures _ _ c.depth_of_expr-2.ensures (c.then-rest.ensures _ _ c.depth_of_expr.ensures c.depth_of_options.ensures)) (simp (c.get.ensures, c.get-2.ensures, c.as_slice.ensures))
