-- The first fault so far, or else that of what is left, is the first of all.
use Rattle.std.proofs.Common.{◌≡◌, drop}
use Rattle.std.specs.Option.{option_or}
use Rattle.zim_static.specs.Around.{names_in}
use Rattle.zim_static.specs.Faults.{first_of_faults}
use Rattle.zim_static.specs.StatementFaults.{options_faults}
use Rattle.zim_static.proofs.statements.options_fault.Given as goal

abbrev pub invariant-loop-place : goal.invariant-loop-place
invariant-loop-place l =
    option_or l.fault (first_of_faults (options_faults l.scope (names_in l.scope l.around) (drop l._place-index l.options))) ≡ first_of_faults (options_faults l.scope (names_in l.scope l.around) l.options)
