-- A byte more, and the line's end.
use Rattle.std.proofs.Common.{false}
use Rattle.zim_read.specs.Lines.{is_left_open}
use Rattle.zim_read.proofs.LineLemmas.{open_next, open_done}
use Rattle.zim_read.proofs.lines.is_left_open.Goals as goal

pub loop-byte-preserved : goal.loop-byte-preserved
loop-byte-preserved c =
    open_next c.args.line.now c.loop-byte.inside c.is_open_behind-inside.result (is_left_open false c.args.line.now) c.loop-byte.byte-index c.loop-byte-test.true c.is_open_behind-inside.ensures c.loop-byte.invariant

pub returns : goal.returns
returns c = open_done c.args.line.now c.loop-byte.inside (is_left_open false c.args.line.now) c.loop-byte.byte-index c.loop-byte-test.false c.loop-byte.invariant
