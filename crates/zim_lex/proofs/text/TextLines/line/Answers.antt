-- The lines that have ended are as many as the line ends.
use Rattle.std.proofs.Common.{◌+◌, sym, ◌∙◌, ap, arith, ℕ, List}
use Rattle.std.specs.Prelude.{count_by, ◌==◌}
use Rattle.zim_lex.proofs.TextLemmas.{lines_short, line_of_text}
use Rattle.zim_lex.proofs.text.TextLines.line.Goals as goal

pub overflow_cast-result : goal.overflow_cast-result
overflow_cast-result c = omega (arith, c.len.ensures, lines_short c.self.inside.lines c.self.inside.bytes c.self.invariant)

pub overflow_add-result : goal.overflow_add-result
overflow_add-result c = omega (arith, c.len.ensures, lines_short c.self.inside.lines c.self.inside.bytes c.self.invariant)

pub returns : goal.returns
returns c =
    ap (λ (n : ℕ). n + 1) c.len.ensures
    ∙ sym (line_of_text c.self.inside.lines c.self.inside.bytes c.self.invariant.ended c.self.invariant.unended)
    ∙ ap (λ (text : List ℕ). count_by (λ b. b == 10) text + 1) c.self.view_is
