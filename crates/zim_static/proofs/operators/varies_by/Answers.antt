-- An operand has variables where the tree has them.
use Rattle.std.proofs.Common.{◌||◌, sym, ◌∙◌}
use Rattle.zim_static.specs.Faults.{part_of}
use Rattle.zim_static.proofs.PartLaws.{part_varies_as_tree}
use Rattle.zim_static.proofs.operators.varies_by.Goals as goal

pub returns-else-before : goal.returns-else-before
returns-else-before c = c.varies.ensures ∙ sym (part_varies_as_tree c.args.scope.now c.args.tree.now) ∙ sym (λ i. c.if-before.false i || (part_of c.args.scope.now c.args.tree.now).varies)
