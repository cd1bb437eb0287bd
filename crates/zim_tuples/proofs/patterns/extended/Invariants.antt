use Rattle.std.proofs.Common.{◌≡◌, ◌++◌}
use Rattle.std.specs.List.{flat_map}
use Rattle.zim_tuples.specs.Patterns.{bound_by}
use Rattle.zim_tuples.proofs.patterns.extended.Given as goal

abbrev pub invariant-loop-slot : goal.invariant-loop-slot
invariant-loop-slot l = l.more ≡ l.env ++ flat_map (λ pair. bound_by pair.0.now pair.1.now) l.yielded
