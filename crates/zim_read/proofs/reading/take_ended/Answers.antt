-- A line more, one that stops, and the end.
use Rattle.std.proofs.Common.{◌+◌, length, sym, ◌∙◌}
use Rattle.std.proofs.lemmas.Result.{err_from_is_err_and}
use Rattle.zim_read.specs.Causes.{rows_cause}
use Rattle.zim_read.specs.Lines.{ended_lines}
use Rattle.zim_read.specs.Private.{manner_of, ended_taken}
use Rattle.zim_read.specs.Rows.{line_taken}
use Rattle.zim_read.proofs.FileLemmas.{line_next, line_stops, lines_done, numbers_next, numbers_done, rest_behind, all_behind, room_next}
use Rattle.zim_read.proofs.reading.take_ended.Goals as goal

pub returns-in_err-take_line-clause-answer : goal.returns-in_err-take_line-clause-answer
returns-in_err-take_line-clause-answer c =
    let p = err_from_is_err_and c.from_residual.result c.from_residual.ensures.1 in
    rw (p.1, p.2)
    (line_stops (line_taken c.args.file (manner_of c.args.manner.now)) c.loop-end.taken c.loop-end.number c.loop-end.rest.now c.without_return-line.result.now c.memchr.result c.in-Some.end (rows_cause c.in_err-take_line.field-0.0) (ended_taken c.args.file (manner_of c.args.manner.now) c.args.taken.now c.args.text.now)
    c.memchr.ensures c.in-Some.is c.without_return-line.ensures c.in_err-take_line.ensures.answer c.loop-end.invariant.answer)

pub loop-end-preserved : goal.loop-end-preserved
loop-end-preserved c = record {
  answer =
      line_next (line_taken c.args.file (manner_of c.args.manner.now)) c.loop-end.taken c.take_line.new.taken c.loop-end.number c.loop-end.rest.now c.without_return-line.result.now c.behind-rest.result.now c.memchr.result c.in-Some.end (ended_taken c.args.file (manner_of c.args.manner.now) c.args.taken.now c.args.text.now)
      c.memchr.ensures c.in-Some.is c.without_return-line.ensures c.behind-rest.ensures c.in_ok-take_line.ensures.answer c.loop-end.invariant.answer;
  number = numbers_next c.loop-end.number (length (ended_lines c.args.text.now) + 1) c.loop-end.rest.now c.behind-rest.result.now c.memchr.result c.in-Some.end c.memchr.ensures c.in-Some.is c.behind-rest.ensures c.loop-end.invariant.number;
  rest = rw c.behind-rest.ensures (sym (rest_behind c.loop-end.rest.now c.memchr.result c.in-Some.end c.memchr.ensures c.in-Some.is) ∙ c.loop-end.invariant.rest);
  room = room_next c.loop-end.number (length c.args.text.now + 1) c.loop-end.rest.now c.behind-rest.result.now c.memchr.result c.in-Some.end c.memchr.ensures c.in-Some.is c.behind-rest.ensures c.loop-end.invariant.room;
}

pub returns-clause-answer : goal.returns-clause-answer
returns-clause-answer c =
    lines_done (line_taken c.args.file (manner_of c.args.manner.now)) c.loop-end.taken c.loop-end.number c.loop-end.rest.now c.memchr.result (ended_taken c.args.file (manner_of c.args.manner.now) c.args.taken.now c.args.text.now) c.memchr.ensures c.in_default.is c.loop-end.invariant.answer

pub returns-clause-number : goal.returns-clause-number
returns-clause-number c = numbers_done c.loop-end.number (length (ended_lines c.args.text.now) + 1) c.loop-end.rest.now c.memchr.result c.memchr.ensures c.in_default.is c.loop-end.invariant.number

pub returns-clause-rest : goal.returns-clause-rest
returns-clause-rest c = sym (all_behind c.loop-end.rest.now c.memchr.result c.memchr.ensures c.in_default.is) ∙ c.loop-end.invariant.rest
