use Rattle.std.proofs.Common.{◌≡◌, ◌≤◌, ◌+◌}
use Rattle.zim_sets.specs.Choices.{ways}
use Rattle.zim_sets.specs.Sets.{most}
use Rattle.zim_sets.proofs.families.are_few.Given as goal

abbrev pub invariant-loop-chosen : goal.invariant-loop-chosen
invariant-loop-chosen l = record {
  counted : l.count ≡ ways (l.left_out + l.chosen) l.chosen;
  few : l.count ≤ most;
}
