-- The parts are read one after another, and the first number that is past is the fault.
use Rattle.std.proofs.Common.{sym, ap, map, List}
use Rattle.zim_plain.specs.declared.statement.Further as code
use Rattle.zim_plain.specs.Reader.{further_of, sum_said}
use Rattle.zim_plain.proofs.SuitLaws.{sum_first, sum_others}
use Rattle.zim_plain.proofs.ReadLaws.{read_start, read_suits, read_step, read_stop, read_end}
use Rattle.zim_plain.proofs.sides.parts.Goals as goal

pub part-requires-clause-suits : goal.part-requires-clause-suits
part-requires-clause-suits c = sum_first c.args.variables.now.keys (sum_said c.args.sum.now) c.requires.suits

pub part-requires-in-loop-further-clause-suits : goal.part-requires-in-loop-further-clause-suits
part-requires-in-loop-further-clause-suits c =
    read_suits c.args.variables.now.keys (sum_said c.args.sum.now) c.deref-further-items.result.now c.loop-further.further-index c.further-item.result c.loop-further.parts.items c.loop-further.invariant c.loop-further-test.true (sym c.further-item.is)

pub loop-further-init : goal.loop-further-init
loop-further-init c =
    read_start c.args.variables.now.keys (sum_said c.args.sum.now) c.deref-further-items.result.now c.place_of.result c.is_negative.result c.in-Ok.first c.push.new.self.items c.new-parts.result.items
    (ap (λ (fs : List code.Further). map further_of fs) c.deref-further-items.ensures.value) (sum_others c.args.variables.now.keys (sum_said c.args.sum.now) c.requires.suits) c.is_negative.ensures c.in-Ok.ensures c.new-parts.ensures.items c.in_ok-push.ensures.items

pub returns-in-Err-part : goal.returns-in-Err-part
returns-in-Err-part c =
    read_stop c.args.variables.now.keys (sum_said c.args.sum.now) c.deref-further-items.result.now c.loop-further.further-index c.further-item.result c.loop-further.parts.items c.in-Err-part.fault c.loop-further.invariant c.loop-further-test.true (sym c.further-item.is) c.in-Err-part.ensures

pub loop-further-preserved : goal.loop-further-preserved
loop-further-preserved c =
    read_step c.args.variables.now.keys (sum_said c.args.sum.now) c.deref-further-items.result.now c.loop-further.further-index c.further-item.result c.loop-further.parts.items c.push-in-Ok-part.new.self.items c.in-Ok-part.part c.loop-further.invariant c.loop-further-test.true (sym c.further-item.is)
    c.in-Ok-part.ensures c.in_ok-push-in-Ok-part.ensures.items

pub returns : goal.returns
returns c =
    let read =
    read_end c.args.variables.now.keys (sum_said c.args.sum.now) c.deref-further-items.result.now c.loop-further.further-index c.loop-further.parts.items (ap (λ (fs : List code.Further). map further_of fs) c.deref-further-items.ensures.value) c.loop-further.invariant c.loop-further-test.false in
    (read.0, (read.1, read.2))
