-- What is taken and what is left of the piece are the text with the whole piece.
use Rattle.std.proofs.Common.{◌≡◌, ◌++◌, length}
use Rattle.zim_lex.proofs.text.TextLines.add.Given as goal

abbrev pub invariant-loop-end : goal.invariant-loop-end
invariant-loop-end l = l.self ++ l.rest ≡ l.fn.self ++ l.piece

abbrev pub decreases-loop-end : goal.decreases-loop-end
decreases-loop-end l = length l.rest
