-- The tokens so far and those of the lines that are left are those of all lines.
use Rattle.std.proofs.Common.{◌≡◌, drop}
use Rattle.zim_answer.specs.Answer.{goes}
use Rattle.zim_lex.specs.Tokens.{with_line, tokens_of}
use Rattle.zim_lex.proofs.tokens.lex.Given as goal

abbrev pub invariant-loop-line : goal.invariant-loop-line
invariant-loop-line l = goes with_line l.tokens.items (drop l.line-index l.lines) ≡ tokens_of l.lines
