use Rattle.std.proofs.Common.{◌≡◌}
use Rattle.zim_sets.specs.Choices.{choices_below}
use Rattle.zim_sets.proofs.families.powerset.Given as goal

abbrev pub invariant-loop-n : goal.invariant-loop-n
invariant-loop-n l = l.family ≡ choices_below l.n l.a
