-- The numbers come to a total one after another, and the first that is past is the fault.
use Rattle.std.proofs.Common.{false, sym, ◌∙◌, ap, map, List}
use Rattle.zim_plain.specs.declared.statement.Further as code
use Rattle.zim_plain.specs.Reader.{further_of, sum_said, item_of}
use Rattle.zim_plain.specs.Faults.{amount}
use Rattle.zim_plain.proofs.SuitLaws.{item_numbers, sum_first}
use Rattle.zim_plain.proofs.ReadLaws.{total_start, total_suits, total_step, total_stop, total_past, total_end}
use Rattle.zim_plain.proofs.sides.known.Goals as goal

pub amount-requires : goal.amount-requires
amount-requires c =
    let names = c.requires.suits.0 in
    item_numbers names false (item_of c.args.sum.now.first) (sum_first names (sum_said c.args.sum.now) c.requires.suits.1)

pub amount-requires-in-loop-further : goal.amount-requires-in-loop-further
amount-requires-in-loop-further c = total_suits (sum_said c.args.sum.now) c.deref-further-items.result.now c.loop-further.further-index c.further-item.result c.loop-further.total c.loop-further.invariant c.loop-further-test.true (sym c.further-item.is)

pub loop-further-init : goal.loop-further-init
loop-further-init c =
    total_start (sum_said c.args.sum.now) c.deref-further-items.result.now c.in-Ok.first c.requires.suits (ap (λ (fs : List code.Further). map further_of fs) c.deref-further-items.ensures.value) c.requires.numbers c.in-Ok.ensures.0
    (c.in-Ok.ensures.1 ∙ ap (λ b. amount (b, item_of c.args.sum.now.first)) c.is_negative.ensures)

pub returns-in-Err-amount : goal.returns-in-Err-amount
returns-in-Err-amount c =
    total_stop (sum_said c.args.sum.now) c.deref-further-items.result.now c.loop-further.further-index c.further-item.result c.loop-further.total c.in-Err-amount.fault c.loop-further.invariant c.loop-further-test.true (sym c.further-item.is) c.in-Err-amount.ensures

pub returns-in-Err-add : goal.returns-in-Err-add
returns-in-Err-add c =
    total_past (sum_said c.args.sum.now) c.deref-further-items.result.now c.loop-further.further-index c.further-item.result c.loop-further.total c.in-Ok-amount.next c.in-Err-add.field-0 c.past_at.result c.loop-further.invariant c.loop-further-test.true (sym c.further-item.is)
    c.in-Ok-amount.ensures.0 c.in-Ok-amount.ensures.1 c.in-Err-add.ensures.answer c.past_at.ensures

pub loop-further-preserved : goal.loop-further-preserved
loop-further-preserved c =
    total_step (sum_said c.args.sum.now) c.deref-further-items.result.now c.loop-further.further-index c.further-item.result c.loop-further.total c.in-Ok-amount.next c.in-Ok-add.total c.loop-further.invariant c.loop-further-test.true (sym c.further-item.is)
    c.in-Ok-amount.ensures.0 c.in-Ok-amount.ensures.1 c.in-Ok-add.ensures.answer

pub returns : goal.returns
returns c = total_end (sum_said c.args.sum.now) c.deref-further-items.result.now c.loop-further.further-index c.loop-further.total c.requires.numbers c.loop-further.invariant c.loop-further-test.false
