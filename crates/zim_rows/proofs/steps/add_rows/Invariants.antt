-- The first rows stand at the end.
use Rattle.std.proofs.Common.{◌≡◌, [], take}
use Rattle.zim_rows.specs.Steps.{with_step, step_of}
use Rattle.zim_rows.proofs.steps.add_rows.Given as goal

abbrev pub invariant-loop-row : goal.invariant-loop-row
invariant-loop-row l = l.system ≡ with_step l.fn.system (step_of [] (take l.row-index l.rows))
