-- The tokens so far and those of what is left are those of the whole line.
use Rattle.std.proofs.Common.{◌≡◌, length}
use Rattle.zim_lex.specs.Tokens.{with_line}
use Rattle.zim_lex.proofs.LineLemmas.{with_bytes}
use Rattle.zim_lex.proofs.tokens.add_line.Given as goal

abbrev pub invariant-loop-rest : goal.invariant-loop-rest
invariant-loop-rest l = with_bytes l.tokens.items l.place l.rest ≡ with_line l.fn.tokens.items l.line

abbrev pub decreases-loop-rest : goal.decreases-loop-rest
decreases-loop-rest l = length l.rest
