-- Items are read as far as the loop has come.
use Rattle.std.proofs.Common.{sym}
use Rattle.std.proofs.lemmas.Result.{err_from_is_err_and}
use Rattle.zim_plain.proofs.OthersLoop.{others_start, others_step, others_stop, others_end}
use Rattle.zim_plain.proofs.reader.others.Goals as goal

pub loop-operand-init : goal.loop-operand-init
loop-operand-init c = others_start c.args.operands.now c.new-others.result.items c.new-others.ensures.items

pub loop-operand-preserved : goal.loop-operand-preserved
loop-operand-preserved c =
    others_step c.args.operands.now c.loop-operand.operand-index c.operand-item.result c.in_ok-further.further c.loop-operand.others.items c.push.new.self.items
    c.loop-operand.invariant c.loop-operand-test.true (sym c.operand-item.is) c.in_ok-further.ensures c.in_ok-push.ensures.items

pub returns-in_err-further : goal.returns-in_err-further
returns-in_err-further c =
    let p = err_from_is_err_and c.from_residual.result c.from_residual.ensures.1 in
    rw (p.1, p.2) (others_stop c.args.operands.now c.loop-operand.operand-index c.operand-item.result c.loop-operand.others.items c.loop-operand.invariant c.loop-operand-test.true (sym c.operand-item.is) c.in_err-further.ensures)

pub returns : goal.returns
returns c = others_end c.args.operands.now c.loop-operand.operand-index c.loop-operand.others.items c.loop-operand.invariant c.loop-operand-test.false
