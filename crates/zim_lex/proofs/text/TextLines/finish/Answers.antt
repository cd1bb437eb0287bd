-- The lines of the text are those that have ended and, where it isn't empty, the open one.
use Rattle.std.proofs.Common.{◌+◌, ℕ, List, [], ◌∷◌, ◌++◌, ◌∙◌, ap, arith}
use Rattle.zim_lex.specs.Lines.{placed_lines, lines_of}
use Rattle.zim_lex.proofs.TextLemmas.{lines_short, numbered_line, finished_closed, finished_open}
use Rattle.zim_lex.proofs.text.TextLines.finish.Goals as goal

pub overflow_cast-place : goal.overflow_cast-place
overflow_cast-place c = omega (arith, c.len.ensures, lines_short c.self.inside.lines c.self.inside.bytes c.self.invariant)

pub overflow_add-place : goal.overflow_add-place
overflow_add-place c = omega (arith, c.len.ensures, lines_short c.self.inside.lines c.self.inside.bytes c.self.invariant)

pub returns-then-is_empty : goal.returns-then-is_empty
returns-then-is_empty c =
    finished_closed c.self.inside.lines c.self.inside.bytes c.self.invariant (c.is_empty.ensures.0 c.if-is_empty.true)
    ∙ ap (λ (text : List ℕ). placed_lines 0 1 (lines_of text)) c.self.view_is

pub returns : goal.returns
returns c =
    c.in_ok-push.ensures.ok ∙ ap (λ (n : ℕ). c.self.inside.lines ++ numbered_line (n + 1) c.self.inside.bytes ∷ []) c.len.ensures
    ∙ finished_open c.self.inside.lines c.self.inside.bytes c.self.invariant (λ none. (let t = c.is_empty.ensures.1 none in cc))
    ∙ ap (λ (text : List ℕ). placed_lines 0 1 (lines_of text)) c.self.view_is
