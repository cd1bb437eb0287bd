-- As the tree has them.
use Rattle.std.proofs.Common.{sym, ◌∙◌}
use Rattle.zim_static.proofs.PartLaws.{part_varies_as_tree}
use Rattle.zim_static.proofs.marks.has_variables.Goals as goal

pub returns : goal.returns
returns c = c.varies.ensures ∙ sym (part_varies_as_tree c.args.scope.now c.args.tree.now)
