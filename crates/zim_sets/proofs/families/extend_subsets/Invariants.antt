use Rattle.std.proofs.Common.{◌≡◌, ◌≤◌, ◌++◌, length}
use Rattle.std.specs.List.{AllByRecursion}
use Rattle.zim_sets.proofs.WalkLaws.{still, still_cost}
use Rattle.zim_sets.specs.Choices.{choices}
use Rattle.zim_sets.specs.Sets.{IsSet}
use Rattle.zim_sets.proofs.families.extend_subsets.Given as goal

abbrev pub decreases-walk : goal.decreases-walk
decreases-walk l = still_cost l.n (length l.a) l.chosen.items l.passed

abbrev pub invariant-walk : goal.invariant-walk
invariant-walk l = record {
  listed : l.family ++ still l.a l.n l.chosen.items l.passed ≡ l.initial.family ++ choices l.n l.a;
  sets : AllByRecursion IsSet (still l.a l.n l.chosen.items l.passed);
  short : length l.chosen.items ≤ l.n;
}
