-- One item more, a fault, and the end.
use Rattle.std.proofs.Common.{◌≡◌, ℕ, List, Ok, sym, subst}
use Rattle.std.proofs.lemmas.Result.{err_from_is_err_and}
use Rattle.zim_answer.specs.Answer.{goes}
use Rattle.zim_answer.specs.Gives.{Stops}
use Rattle.zim_answer.proofs.GivesLemmas.{Stops-goes}
use Rattle.zim_answer.proofs.GoesLemmas.{goes_next, goes_done}
use Rattle.zim_eval.specs.Causes.{eval_cause}
use Rattle.zim_perform.specs.Private.{with_further_item, with_item_text}
use Rattle.zim_perform.proofs.lines.put_further_items.Goals as goal

pub returns-in_err-put_item : goal.returns-in_err-put_item
returns-in_err-put_item c =
    let p = err_from_is_err_and c.from_residual-in_err-put_item.result c.from_residual-in_err-put_item.ensures.1 in
    rw (p.1, p.2)
    (Stops-goes (with_further_item c.args.world.now c.args.env.now) c.loop-item.line c.args.items.now c.loop-item.item-index c.item-item.result (eval_cause c.in_err-put_item.field-0.0) (goes (with_further_item c.args.world.now c.args.env.now) c.args.line.now c.args.items.now) c.loop-item-test.true (sym c.item-item.is)
    (subst (λ (t : List ℕ). Stops (with_item_text c.args.world.now c.args.env.now t c.item-item.result) (eval_cause c.in_err-put_item.field-0.0)) c.in_ok-push.ensures.ok c.in_err-put_item.ensures) c.loop-item.invariant)

pub loop-item-preserved : goal.loop-item-preserved
loop-item-preserved c =
    goes_next (with_further_item c.args.world.now c.args.env.now) c.loop-item.line c.put_item.new.line c.args.items.now c.loop-item.item-index c.item-item.result (goes (with_further_item c.args.world.now c.args.env.now) c.args.line.now c.args.items.now) c.loop-item-test.true (sym c.item-item.is)
    (subst (λ (t : List ℕ). with_item_text c.args.world.now c.args.env.now t c.item-item.result ≡ Ok c.put_item.new.line) c.in_ok-push.ensures.ok c.in_ok-put_item.ensures) c.loop-item.invariant

pub returns : goal.returns
returns c = goes_done (with_further_item c.args.world.now c.args.env.now) c.loop-item.line c.args.items.now c.loop-item.item-index (goes (with_further_item c.args.world.now c.args.env.now) c.args.line.now c.args.items.now) c.loop-item-test.false c.loop-item.invariant
