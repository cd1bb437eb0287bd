-- A file of the name is the first of it, and at the end there is none.
use Rattle.zim_gate.proofs.Finding.{not_there, is_there, nowhere}
use Rattle.zim_gate.proofs.stored.find.Goals as goal

pub loop-file-preserved : goal.loop-file-preserved
loop-file-preserved c =
    not_there c.args.files.now c.loop-file.file-index c.file-item.result c.args.name.now c.as_slice.result.now c.eq.result c.loop-file.invariant
    c.loop-file-test.true c.file-item.is c.as_slice.ensures c.eq.ensures c.if-eq.false

pub returns-then-eq : goal.returns-then-eq
returns-then-eq c =
    is_there c.args.files.now c.loop-file.file-index c.file-item.result c.args.name.now c.as_slice.result.now c.as_slice-then-eq.result.now c.eq.result
    c.loop-file.invariant c.loop-file-test.true c.file-item.is c.as_slice.ensures c.eq.ensures c.if-eq.true c.as_slice-then-eq.ensures

pub returns : goal.returns
returns c = nowhere c.args.files.now c.loop-file.file-index c.args.name.now c.loop-file.invariant c.loop-file-test.false
