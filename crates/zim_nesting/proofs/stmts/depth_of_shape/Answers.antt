-- The brackets, and what stands behind them.
use Rattle.zim_nesting.specs.Depth.{no_nesting, nesting_in_brackets}
use Rattle.zim_nesting.proofs.CountsLemmas.{given}
use Rattle.zim_nesting.proofs.stmts.depth_of_shape.Goals as goal

pub returns-in-Set : goal.returns-in-Set
returns-in-Set c = given _ _ (c.then.ensures _ _ c.depth_of_brackets.ensures c.depth_of_set_side.ensures) (simp c.in-Set.is)

pub returns-in-Param : goal.returns-in-Param
returns-in-Param c = given _ _ (c.then-in-Param.ensures _ _ c.depth_of_brackets-in-Param.ensures c.depth_of_par_side.ensures) (simp c.in-Param.is)

pub returns-in-Var : goal.returns-in-Var
returns-in-Var c =
    given _ _ (c.then-in-Var.ensures _ _ c.depth_of_brackets-in-Var.ensures (c.then-rest.ensures _ _ c.depth_of_limits.ensures (c.then-given.ensures _ _ c.depth_of_given.ensures c.depth_of_given-in-Var.ensures)))
    (simp (c.as_slice.ensures, c.in-Var.is))

pub returns-in-Define : goal.returns-in-Define
returns-in-Define c =
    given _ _ (c.then-in-Define.ensures (nesting_in_brackets no_nesting) _ (c.inside.ensures no_nesting c.plain.ensures) c.depth_of_expr-in-Define.ensures) (simp (c.get-in-Define.ensures, c.in-Define.is))
