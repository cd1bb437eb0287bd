-- Each item without a name leaves the question to the rest.
use Rattle.std.proofs.Common.{sym}
use Rattle.zim_plain.proofs.ReadLaws.{seek_step, seek_found, seek_end}
use Rattle.zim_plain.proofs.sides.any_has_name.Goals as goal

pub returns-then-has_name : goal.returns-then-has_name
returns-then-has_name c =
    seek_found c.args.others.now c.loop-further.further-index c.further-item.result c.has_name.result c.loop-further.invariant c.loop-further-test.true (sym c.further-item.is) c.has_name.ensures c.if-has_name.true

pub loop-further-preserved : goal.loop-further-preserved
loop-further-preserved c =
    seek_step c.args.others.now c.loop-further.further-index c.further-item.result c.has_name.result c.loop-further.invariant c.loop-further-test.true (sym c.further-item.is) c.has_name.ensures c.if-has_name.false

pub returns : goal.returns
returns c = seek_end c.args.others.now c.loop-further.further-index c.loop-further.invariant c.loop-further-test.false
