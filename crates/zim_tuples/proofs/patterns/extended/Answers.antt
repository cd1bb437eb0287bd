use Rattle.std.proofs.lemmas.List.Folds.{flat_map-map}
use Rattle.zim_tuples.proofs.Zipped.{taken_pairs}
use Rattle.zim_tuples.proofs.patterns.extended.Goals as goal

pub returns : goal.returns
returns c =
    let pairs = taken_pairs c.args.slots.now c.args.tuple.now c.loop-slot.yielded c.into_iter-slot-iterator.result c.loop-slot.slot-iterator c.next.new.self (cc) (cc) c.loop-slot.yielded_by c.in-None.ensures.steps in
    rw (c.loop-slot.invariant, ← pairs, flat_map-map)
