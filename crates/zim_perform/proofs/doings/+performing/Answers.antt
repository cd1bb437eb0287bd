-- Each form of a doing, and what is done at one choice more.
use Rattle.std.proofs.Common.{sym, refl}
use Rattle.std.proofs.lemmas.Result.{err_from_is_err_and}
use Rattle.zim_answer.proofs.GivesLemmas.{Stops-goes}
use Rattle.zim_answer.proofs.GoesLemmas.{goes_next, goes_done}
use Rattle.zim_perform.specs.Performing.{print_cause}
use Rattle.zim_perform.specs.Private.{done_at, done_at_each}
use Rattle.zim_perform.proofs.PrintLemmas.{print_given, check_given, forall_given, forall_stops}
use Rattle.zim_perform.proofs.TextLemmas.{keeps_itself, keeps_on}
use Rattle.zim_perform.proofs.doings.+performing.Goals as goal

pub perform_in-returns-in-Print-clause-answer : goal.perform_in-returns-in-Print-clause-answer
perform_in-returns-in-Print-clause-answer t c =
    print_given c.args.world.now c.args.env.now c.args.tree.now c.in-Print._place c.in-Print.items c.as_slice.result.now c.args.printed.now _ c.print.result c.in-Print.is c.as_slice.ensures c.print.ensures.answer

pub perform_in-returns-in-Check-clause-answer : goal.perform_in-returns-in-Check-clause-answer
perform_in-returns-in-Check-clause-answer t c =
    check_given c.args.world.now c.args.env.now c.args.tree.now c.in-Check.place c.in-Check.tree c.get.result.now c.args.printed.now c.check.result c.in-Check.is c.get.ensures c.check.ensures

pub perform_in-returns-in-Ok-clause-answer : goal.perform_in-returns-in-Ok-clause-answer
perform_in-returns-in-Ok-clause-answer t c =
    forall_given c.args.world.now c.args.env.now c.args.tree.now c.in-Forall._place c.in-Forall.index c.get-in-Forall.result.now c.in-Forall._with_do c.in-Forall.inner c.get-in-Ok.result.now c.in-Ok.choices c.as_slice-in-Ok.result.now c.args.printed.now _ c.perform_at_each.result
    c.in-Forall.is c.get-in-Forall.ensures c.get-in-Ok.ensures c.as_slice-in-Ok.ensures c.in-Ok.ensures c.perform_at_each.ensures.answer

pub perform_in-returns-in-Err-clause-answer : goal.perform_in-returns-in-Err-clause-answer
perform_in-returns-in-Err-clause-answer t c =
    forall_stops c.args.world.now c.args.env.now c.args.tree.now c.in-Forall._place c.in-Forall.index c.get-in-Forall.result.now c.in-Forall._with_do c.in-Forall.inner c.args.printed.now c.in-Err.stop c.in-Forall.is c.get-in-Forall.ensures c.in-Err.ensures

pub perform_at_each-loop-choice-init : goal.perform_at_each-loop-choice-init
unfolding done_at_each
perform_at_each-loop-choice-init t c = (refl, keeps_itself c.args.printed.now)

pub perform_at_each-loop-choice-preserved : goal.perform_at_each-loop-choice-preserved
perform_at_each-loop-choice-preserved t c = (
  goes_next (done_at c.args.world.now c.args.tree.now) c.loop-choice.printed c.perform_in.new.printed c.args.choices.now c.loop-choice.choice-index c.choice-item.result (done_at_each c.args.world.now c.args.tree.now c.args.printed.now c.args.choices.now) c.loop-choice-test.true (sym c.choice-item.is) c.in_ok-perform_in.ensures.answer c.loop-choice.invariant.0,
  keeps_on c.args.printed.now c.loop-choice.printed c.perform_in.new.printed c.loop-choice.invariant.1 c.in_ok-perform_in.ensures.kept,
)

pub perform_at_each-returns-in_err-perform_in-clause-answer : goal.perform_at_each-returns-in_err-perform_in-clause-answer
perform_at_each-returns-in_err-perform_in-clause-answer t c =
    let p = err_from_is_err_and c.from_residual.result c.from_residual.ensures.1 in
    rw (p.1, p.2)
    (Stops-goes (done_at c.args.world.now c.args.tree.now) c.loop-choice.printed c.args.choices.now c.loop-choice.choice-index c.choice-item.result (print_cause c.perform_in.new.printed c.in_err-perform_in.field-0.0) (done_at_each c.args.world.now c.args.tree.now c.args.printed.now c.args.choices.now) c.loop-choice-test.true (sym c.choice-item.is) c.in_err-perform_in.ensures.answer c.loop-choice.invariant.0)

pub perform_at_each-returns-in_err-perform_in-clause-kept : goal.perform_at_each-returns-in_err-perform_in-clause-kept
perform_at_each-returns-in_err-perform_in-clause-kept t c =
    keeps_on c.args.printed.now c.loop-choice.printed c.perform_in.new.printed c.loop-choice.invariant.1 c.in_err-perform_in.ensures.kept

pub perform_at_each-returns-clause-answer : goal.perform_at_each-returns-clause-answer
perform_at_each-returns-clause-answer t c =
    goes_done (done_at c.args.world.now c.args.tree.now) c.loop-choice.printed c.args.choices.now c.loop-choice.choice-index (done_at_each c.args.world.now c.args.tree.now c.args.printed.now c.args.choices.now) c.loop-choice-test.false c.loop-choice.invariant.0
