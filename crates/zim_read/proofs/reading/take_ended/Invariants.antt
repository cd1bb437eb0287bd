-- The lines that still end lead on to the whole answer, and their numbers to the last one.
use Rattle.std.proofs.Common.{◌≡◌, ◌+◌, ◌≤◌, length}
use Rattle.std.specs.List.{enumerate_from}
use Rattle.zim_answer.specs.Answer.{goes}
use Rattle.zim_read.specs.Lines.{ended_lines, behind_last_end}
use Rattle.zim_read.specs.Private.{manner_of, ended_taken}
use Rattle.zim_read.specs.Rows.{line_taken}
use Rattle.zim_read.proofs.reading.take_ended.Given as goal

abbrev pub invariant-loop-end : goal.invariant-loop-end
invariant-loop-end l = record {
  answer : goes (line_taken l.file (manner_of l.manner)) l.taken (enumerate_from l.number (ended_lines l.rest)) ≡ ended_taken l.file (manner_of l.manner) l.fn.taken l.text;
  number : l.number + length (ended_lines l.rest) ≡ length (ended_lines l.text) + 1;
  rest : behind_last_end l.rest ≡ behind_last_end l.text;
  room : l.number + length l.rest ≤ length l.text + 1;
}

abbrev pub decreases-loop-end : goal.decreases-loop-end
decreases-loop-end l = length l.rest
