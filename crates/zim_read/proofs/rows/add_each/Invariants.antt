-- The rows so far lead on to the whole answer.
use Rattle.std.proofs.Common.{◌≡◌, drop}
use Rattle.zim_answer.specs.Answer.{goes}
use Rattle.zim_read.specs.Private.{lent, with_each}
use Rattle.zim_read.specs.Rows.{with_field}
use Rattle.zim_read.proofs.rows.add_each.Given as goal

abbrev pub invariant-loop-field : goal.invariant-loop-field
invariant-loop-field l = goes (with_field l.kind l.number) l.rows (drop l.field-index (lent l.line)) ≡ with_each l.kind l.number l.initial.rows (lent l.line)
