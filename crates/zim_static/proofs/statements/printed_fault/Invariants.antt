-- The first fault so far, or else that of what is left, is the first of all.
use Rattle.std.proofs.Common.{◌≡◌, drop}
use Rattle.std.specs.Option.{option_or}
use Rattle.zim_static.specs.Around.{names_in}
use Rattle.zim_static.specs.Faults.{first_of_faults}
use Rattle.zim_static.specs.StatementFaults.{all_printed_faults}
use Rattle.zim_static.proofs.statements.printed_fault.Given as goal

abbrev pub invariant-loop-item : goal.invariant-loop-item
invariant-loop-item l =
    option_or l.fault (first_of_faults (all_printed_faults l.scope (names_in l.scope l.around) (drop l.item-index l.items))) ≡ first_of_faults (all_printed_faults l.scope (names_in l.scope l.around) l.items)
