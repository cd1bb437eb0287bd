-- As each value has them.
use Rattle.std.proofs.Common.{ap, ◌∙◌}
use Rattle.zim_static.specs.Around.{names_in}
use Rattle.zim_static.specs.Faults.{first_of_faults}
use Rattle.zim_static.proofs.FaultLoopLemmas.{values_known}
use Rattle.zim_static.proofs.statements.values_fault.Goals as goal

pub returns : goal.returns
returns c = c.fault_in_items.ensures ∙ ap first_of_faults (values_known c.args.scope.now (names_in c.args.scope.now c.args.around.now) c.args.trees.now)
