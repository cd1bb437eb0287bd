-- The first fault so far, or else that of what is left, is the first of all.
use Rattle.std.proofs.Common.{◌≡◌, [], drop}
use Rattle.std.specs.Option.{option_or}
use Rattle.zim_static.specs.Faults.{first_of_faults}
use Rattle.zim_static.specs.StatementFaults.{parameters_faults}
use Rattle.zim_static.proofs.FaultLoopLemmas.{names_before}
use Rattle.zim_static.proofs.statements.parameters_fault.Given as goal

abbrev pub invariant-loop-i : goal.invariant-loop-i
invariant-loop-i l = option_or l.fault (first_of_faults (parameters_faults l.scope (names_before l.parameters l.i) (drop l.i l.parameters))) ≡ first_of_faults (parameters_faults l.scope [] l.parameters)
