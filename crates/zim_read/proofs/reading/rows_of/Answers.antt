-- A line that ends stops all, the file has more, and the line without an end.
use Rattle.std.proofs.Common.{ℕ, List, Ok, Err, Bor, ap, sym, ◌∙◌}
use Rattle.std.proofs.lemmas.Result.{err_from_is_err_and}
use Rattle.zim_read.specs.declared.rows.Taken.{Taken}
use Rattle.zim_read.specs.Causes.{rows_cause}
use Rattle.zim_read.specs.Private.{manner_of}
use Rattle.zim_read.proofs.FileLemmas.{ended_stop, long_file, nothing_last, last_taken, last_stops, some_rest, no_rest}
use Rattle.zim_read.proofs.reading.rows_of.Goals.{then-not-is_empty+in_ok-take_line, else-not-is_empty}
use Rattle.zim_read.proofs.reading.rows_of.Goals as goal

pub returns-in_err-number-clause-answer : goal.returns-in_err-number-clause-answer
returns-in_err-number-clause-answer c =
    let p = err_from_is_err_and c.from_residual.result c.from_residual.ensures.1 in
    rw (p.1, p.2)
    (ended_stop c.args.file (manner_of c.args.manner.now) c.args.uses c.args.read.now.is_whole c.args.read.now.bytes (rows_cause c.in_err-number.field-0.0) (rw (c.new.ensures, c.as_slice.ensures) at c.in_err-number.ensures.answer))

pub returns-then-not-read-clause-answer : goal.returns-then-not-read-clause-answer
returns-then-not-read-clause-answer c =
    long_file c.args.file (manner_of c.args.manner.now) c.args.uses c.args.read.now.is_whole c.args.read.now.bytes c.take_ended.new.taken c.in_ok-number.number c.if-not-read.true (rw (c.new.ensures, c.as_slice.ensures) at c.in_ok-number.ensures.answer) (c.in_ok-number.number-is ∙ (rw c.as_slice.ensures at c.in_ok-number.ensures.number))
    ∙ ap Err (sym c.fault_in.ensures)

pub returns-in_err-take_line-clause-answer : goal.returns-in_err-take_line-clause-answer
returns-in_err-take_line-clause-answer c =
    let p = err_from_is_err_and c.from_residual-in_err-take_line.result c.from_residual-in_err-take_line.ensures.1 in
    rw (p.1, p.2)
    (last_stops c.args.file (manner_of c.args.manner.now) c.args.uses c.args.read.now.is_whole c.args.read.now.bytes c.in_ok-number.rest.now c.take_ended.new.taken c.in_ok-number.number (rows_cause c.in_err-take_line.field-0.0) c.if-not-read.false (rw (c.new.ensures, c.as_slice.ensures) at c.in_ok-number.ensures.answer) (c.in_ok-number.number-is ∙ (rw c.as_slice.ensures at c.in_ok-number.ensures.number))
    (ap (λ (r : Bor (List ℕ)). r.now) c.in_ok-number.rest-is ∙ (rw c.as_slice.ensures at c.in_ok-number.ensures.rest)) (some_rest c.in_ok-number.rest.now c.is_empty.result c.is_empty.ensures c.if-not-is_empty.true) c.in_err-take_line.ensures.answer)

pub returns-clause-answer : goal.returns-clause-answer
returns-clause-answer c = elim c.if-not-is_empty.branch [
  | then-not-is_empty+in_ok-take_line w ↦
      last_taken c.args.file (manner_of c.args.manner.now) c.args.uses c.args.read.now.is_whole c.args.read.now.bytes c.in_ok-number.rest.now c.take_ended.new.taken w.take_line.new.taken c.in_ok-number.number c.if-not-read.false (rw (c.new.ensures, c.as_slice.ensures) at c.in_ok-number.ensures.answer) (c.in_ok-number.number-is ∙ (rw c.as_slice.ensures at c.in_ok-number.ensures.number))
      (ap (λ (r : Bor (List ℕ)). r.now) c.in_ok-number.rest-is ∙ (rw c.as_slice.ensures at c.in_ok-number.ensures.rest)) (some_rest c.in_ok-number.rest.now c.is_empty.result c.is_empty.ensures w.if-not-is_empty.true) w.in_ok-take_line.ensures.answer
      ∙ ap (λ (t : Taken). Ok t.rows) (sym w.taken-is) ∙ ap Ok (sym c.into_vec.ensures)
  | else-not-is_empty w ↦
      nothing_last c.args.file (manner_of c.args.manner.now) c.args.uses c.args.read.now.is_whole c.args.read.now.bytes c.in_ok-number.rest.now c.take_ended.new.taken c.in_ok-number.number c.if-not-read.false (rw (c.new.ensures, c.as_slice.ensures) at c.in_ok-number.ensures.answer) (c.in_ok-number.number-is ∙ (rw c.as_slice.ensures at c.in_ok-number.ensures.number))
      (ap (λ (r : Bor (List ℕ)). r.now) c.in_ok-number.rest-is ∙ (rw c.as_slice.ensures at c.in_ok-number.ensures.rest)) (no_rest c.in_ok-number.rest.now c.is_empty.result c.is_empty.ensures w.if-not-is_empty.false)
      ∙ ap (λ (t : Taken). Ok t.rows) (sym w.taken-is) ∙ ap Ok (sym c.into_vec.ensures)
]
