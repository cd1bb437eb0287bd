-- As the tree has them.
use Rattle.std.proofs.Common.{sym, ◌∙◌}
use Rattle.zim_static.proofs.PartLaws.{index_varies_as_tree}
use Rattle.zim_static.proofs.marks.index_has_variables.Goals as goal

pub returns : goal.returns
returns c = c.index_varies.ensures ∙ sym (index_varies_as_tree c.args.scope.now c.args.index.now)
