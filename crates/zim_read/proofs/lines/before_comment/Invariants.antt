-- What was passed, and what of the rest stands before a comment, stand before it in the line.
use Rattle.std.proofs.Common.{◌≡◌, ◌++◌, false, take, drop}
use Rattle.zim_read.specs.Lines.{before_comment}
use Rattle.zim_read.proofs.lines.before_comment.Given as goal

abbrev pub invariant-loop-at : goal.invariant-loop-at
invariant-loop-at l = before_comment l.comment false l.line ≡ take l.at l.line ++ before_comment l.comment l.inside (drop l.at l.line)
