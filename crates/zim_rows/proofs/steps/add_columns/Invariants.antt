-- The first columns stand at the end.
use Rattle.std.proofs.Common.{◌≡◌, [], take}
use Rattle.zim_rows.specs.Steps.{with_step, step_of}
use Rattle.zim_rows.proofs.steps.add_columns.Given as goal

abbrev pub invariant-loop-column : goal.invariant-loop-column
invariant-loop-column l = l.system ≡ with_step l.fn.system (step_of (take l.column-index l.columns) [])
