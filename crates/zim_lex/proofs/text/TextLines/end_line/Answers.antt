-- The open line grows and then ends.
use Rattle.std.proofs.Common.{◌+◌, ◌≤◌, length, arith}
use Rattle.zim_lex.specs.Lines.{most_bytes}
use Rattle.zim_lex.specs.Text.{text_of}
use Rattle.zim_lex.proofs.TextLemmas.{lines_short, text_of-line, IsText-line, IsText-lost}
use Rattle.zim_lex.proofs.text.TextLines.end_line.Goals as goal

pub overflow_cast-place : goal.overflow_cast-place
overflow_cast-place c = omega (arith, lines_short c.self.inside.lines c.self.inside.bytes c.self.invariant)

pub overflow_add-place : goal.overflow_add-place
overflow_add-place c = omega (arith, lines_short c.self.inside.lines c.self.inside.bytes c.self.invariant)

pub invariant_of-self-2 : goal.invariant_of-self-2
invariant_of-self-2 c =
    let room : length (text_of c.self.inside.lines c.self.inside.bytes) + length c.args.bytes.now + 1 ≤ most_bytes = rw c.self.view_is c.requires.room in
    rw (c.in_ok-push.ensures.ok, c.len.ensures, c.replace-bytes.ensures.value, c.in_ok-extend_from_slice.ensures.ok, c.replace-bytes.ensures.after, c.new.ensures)
    (IsText-line c.self.inside.lines c.self.inside.bytes c.args.bytes.now c.self.invariant c.requires.plain room)

pub invariant_of-self-in_err-push : goal.invariant_of-self-in_err-push
invariant_of-self-in_err-push c =
    rw (c.in_err-push.ensures.err, c.replace-bytes.ensures.after, c.new.ensures) (IsText-lost c.self.inside.lines c.self.inside.bytes c.self.invariant)

pub returns : goal.returns
returns c =
    rw (c.in_ok-push.ensures.ok, c.len.ensures, c.replace-bytes.ensures.value, c.in_ok-extend_from_slice.ensures.ok, c.replace-bytes.ensures.after, c.new.ensures, ← c.self.view_is)
    (text_of-line c.self.inside.lines c.self.inside.bytes c.args.bytes.now (length c.self.inside.lines + 1))
