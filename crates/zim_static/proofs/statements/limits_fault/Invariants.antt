-- The first fault so far, or else that of what is left, is the first of all.
use Rattle.std.proofs.Common.{◌≡◌, drop}
use Rattle.std.specs.Option.{option_or}
use Rattle.zim_static.specs.Around.{names_in}
use Rattle.zim_static.specs.Faults.{first_of_faults}
use Rattle.zim_static.specs.StatementFaults.{limits_faults}
use Rattle.zim_static.proofs.statements.limits_fault.Given as goal

abbrev pub invariant-loop-limit : goal.invariant-loop-limit
invariant-loop-limit l =
    option_or l.fault (first_of_faults (limits_faults l.scope (names_in l.scope l.around) (drop l.limit-index l.limits))) ≡ first_of_faults (limits_faults l.scope (names_in l.scope l.around) l.limits)
