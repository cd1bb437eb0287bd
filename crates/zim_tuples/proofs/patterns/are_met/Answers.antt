use Rattle.std.proofs.Common.{sym, ◌∙◌}
use Rattle.std.proofs.lemmas.List.Folds.{list_all-map}
use Rattle.zim_tuples.proofs.Zipped.{taken_pairs, failing_pair}
use Rattle.zim_tuples.specs.Patterns.{slot_agrees}
use Rattle.zim_tuples.proofs.patterns.are_met.Goals as goal

pub returns-then-not-is_met : goal.returns-then-not-is_met
returns-then-not-is_met c =
    sym (failing_pair (λ pair. slot_agrees c.args.tuple.now pair.0 pair.1) c.args.slots.now c.args.tuple.now c.loop-slot.yielded c.into_iter-slot-iterator.result c.loop-slot.slot-iterator c.next.new.self (c.in-Some.slot, c.in-Some.component) (cc) (cc) c.loop-slot.yielded_by c.in-Some.ensures.steps (sym c.is_met.ensures ∙ c.if-not-is_met.true))

pub returns : goal.returns
returns c =
    let pairs = taken_pairs c.args.slots.now c.args.tuple.now c.loop-slot.yielded c.into_iter-slot-iterator.result c.loop-slot.slot-iterator c.next.new.self (cc) (cc) c.loop-slot.yielded_by c.in-None.ensures.steps in
    rw (← pairs, list_all-map) (sym c.loop-slot.invariant)
