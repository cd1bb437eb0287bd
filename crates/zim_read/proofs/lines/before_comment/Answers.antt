-- A comment begins at this byte, or later, or nowhere.
use Rattle.std.proofs.Common.{false}
use Rattle.zim_read.specs.Lines.{before_comment}
use Rattle.zim_read.proofs.LineLemmas.{comment_cuts, comment_later, comment_nowhere}
use Rattle.zim_read.proofs.lines.before_comment.Goals as goal

pub returns-then-is_comment : goal.returns-then-is_comment
returns-then-is_comment c =
    comment_cuts c.args.comment.now c.args.line.now (before_comment c.args.comment.now false c.args.line.now) c.loop-at.inside c.is_comment.result c.loop-at.at c.loop-at-test.true c.is_comment.ensures c.if-is_comment.true c.loop-at.invariant

pub loop-at-preserved : goal.loop-at-preserved
loop-at-preserved c =
    comment_later c.args.comment.now c.args.line.now (before_comment c.args.comment.now false c.args.line.now) c.loop-at.inside c.is_comment.result c.is_open_behind-inside.result c.loop-at.at c.loop-at-test.true c.is_comment.ensures c.if-is_comment.false c.is_open_behind-inside.ensures c.loop-at.invariant

pub returns : goal.returns
returns c =
    comment_nowhere c.args.comment.now c.args.line.now (before_comment c.args.comment.now false c.args.line.now) c.loop-at.inside c.loop-at.at c.loop-at-test.false c.loop-at.invariant
