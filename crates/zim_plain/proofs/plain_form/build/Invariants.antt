use Rattle.std.proofs.Common.{take}
use Rattle.zim_plain.specs.Build.{built, IsSmall}
use Rattle.zim_plain.proofs.ModelLaws.{StandsSoFar}
use Rattle.zim_plain.proofs.plain_form.build.Given as goal

abbrev pub invariant-loop-tree : goal.invariant-loop-tree
invariant-loop-tree l = record {
  stands : StandsSoFar (take l.tree-index l.statements) (built l.builder);
  small : IsSmall (built l.builder);
}
