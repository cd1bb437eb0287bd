-- The three faults of a name one behind the other.
use Rattle.std.proofs.Common.{ap, not, ◌&&◌, ◌∙◌}
use Rattle.zim_fault.specs.declared.kinds.Kind.TheVariants.{VariableHere}
use Rattle.zim_static.specs.Roles.{is_term}
use Rattle.zim_static.specs.Faults.{first_of_faults, fault_if}
use Rattle.zim_static.proofs.FirstLaws.{of_three}
use Rattle.zim_static.proofs.uses.name_fault.Goals as goal

pub returns : goal.returns
returns c =
    of_three _ _ _ c.mark_of.ensures (c.misplaced.ensures ∙ ap (λ varies. first_of_faults (fault_if (varies && not (is_term c.args.role)) VariableHere c.args.place)) c.is_variable.ensures) c.or.ensures
    c.no_constraint.ensures c.or-2.ensures
