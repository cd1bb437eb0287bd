use Rattle.std.proofs.Common.{◌≡◌, true}
use Rattle.std.specs.List.{list_all}
use Rattle.zim_tuples.specs.Patterns.{slot_agrees}
use Rattle.zim_tuples.proofs.patterns.are_met.Given as goal

abbrev pub invariant-loop-slot : goal.invariant-loop-slot
invariant-loop-slot l = list_all (λ pair. slot_agrees l.tuple pair.0.now pair.1.now) l.yielded ≡ true
