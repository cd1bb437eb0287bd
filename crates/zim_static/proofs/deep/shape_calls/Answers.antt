-- The brackets, and what stands behind them.
use Rattle.std.proofs.Common.{refl, ap}
use Rattle.zim_static.specs.Calls.{shape_calls}
use Rattle.zim_static.proofs.CallsLemmas.{greater_of}
use Rattle.zim_static.proofs.deep.shape_calls.Goals as goal

pub returns-in-Set : goal.returns-in-Set
returns-in-Set c = greater_of c.max.ensures c.brackets_calls.ensures c.set_calls.ensures (ap (shape_calls c.args.scope.now) c.in-Set.is)

pub returns-in-Param : goal.returns-in-Param
returns-in-Param c = greater_of c.max-in-Param.ensures c.brackets_calls-in-Param.ensures c.param_calls.ensures (ap (shape_calls c.args.scope.now) c.in-Param.is)

pub returns-in-Var : goal.returns-in-Var
returns-in-Var c =
    greater_of c.max-in-Var.ensures c.brackets_calls-in-Var.ensures
    (greater_of c.max-rest.ensures (simp c.as_slice.ensures at c.limits_calls.ensures) (greater_of c.max-given.ensures c.given_calls.ensures c.given_calls-in-Var.ensures refl) refl)
    (ap (shape_calls c.args.scope.now) c.in-Var.is)
