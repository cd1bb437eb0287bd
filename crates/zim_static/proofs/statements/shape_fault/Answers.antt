-- The brackets, and what stands behind them under the names that they bind.
use Rattle.std.proofs.Common.{sym, ap, ◌∙◌}
use Rattle.zim_typed.specs.Scope.{Names}
use Rattle.zim_static.specs.Faults.{first_of_faults}
use Rattle.zim_static.specs.StatementFaults.{set_faults, param_faults, limits_faults, operand_faults, shape_faults}
use Rattle.zim_static.proofs.AroundLaws.{names-Nothing}
use Rattle.zim_static.proofs.FirstLaws.{of_two, of_four}
use Rattle.zim_static.proofs.statements.shape_fault.Goals as goal

pub returns-in-Set : goal.returns-in-Set
returns-in-Set c =
    of_two _ _ c.brackets_fault.ensures (c.set_fault.ensures ∙ ap (λ (names : Names). first_of_faults (set_faults c.args.scope.now names c.in-Set.side)) (c.behind_brackets-behind.ensures c.args.scope.now (names-Nothing c.args.scope.now))) c.or.ensures
    ∙ sym (ap (λ shape. first_of_faults (shape_faults c.args.scope.now shape)) c.in-Set.is)

pub returns-in-Param : goal.returns-in-Param
returns-in-Param c =
    of_two _ _ c.brackets_fault-in-Param.ensures (c.param_fault.ensures ∙ ap (λ (names : Names). first_of_faults (param_faults c.args.scope.now names c.in-Param.side)) (c.behind_brackets-behind-in-Param.ensures c.args.scope.now (names-Nothing c.args.scope.now))) c.or-in-Param.ensures
    ∙ sym (ap (λ shape. first_of_faults (shape_faults c.args.scope.now shape)) c.in-Param.is)

pub returns-in-Var : goal.returns-in-Var
returns-in-Var c =
    of_four _ _ _ _ c.brackets_fault-in-Var.ensures
    ((simp c.as_slice.ensures at c.limits_fault.ensures) ∙ ap (λ (names : Names). first_of_faults (limits_faults c.args.scope.now names c.in-Var.limits)) (c.behind_brackets-behind-in-Var.ensures c.args.scope.now (names-Nothing c.args.scope.now))) c.or-in-Var.ensures
    (c.operand_fault.ensures ∙ ap (λ (names : Names). first_of_faults (operand_faults c.args.scope.now names c.in-Var.priority)) (c.behind_brackets-behind-in-Var.ensures c.args.scope.now (names-Nothing c.args.scope.now))) c.or-in-Var-2.ensures
    (c.operand_fault-in-Var.ensures ∙ ap (λ (names : Names). first_of_faults (operand_faults c.args.scope.now names c.in-Var.startval)) (c.behind_brackets-behind-in-Var.ensures c.args.scope.now (names-Nothing c.args.scope.now))) c.or-in-Var-3.ensures
    ∙ sym (ap (λ shape. first_of_faults (shape_faults c.args.scope.now shape)) c.in-Var.is)
