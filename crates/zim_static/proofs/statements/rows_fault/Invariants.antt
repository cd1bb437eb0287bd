-- The first fault so far, or else that of what is left, is the first of all.
use Rattle.std.proofs.Common.{◌≡◌, drop}
use Rattle.std.specs.Option.{option_or}
use Rattle.zim_static.specs.Around.{names_in}
use Rattle.zim_static.specs.Faults.{first_of_faults}
use Rattle.zim_static.specs.StatementFaults.{rows_faults}
use Rattle.zim_static.proofs.statements.rows_fault.Given as goal

abbrev pub invariant-loop-items : goal.invariant-loop-items
invariant-loop-items l =
    option_or l.fault (first_of_faults (rows_faults l.scope (names_in l.scope l.around) (drop l.items-index l.rows))) ≡ first_of_faults (rows_faults l.scope (names_in l.scope l.around) l.rows)
