use Rattle.zim_parse_expression.proofs.OneTreeLaws.{one_tree}
use Rattle.zim_parse_expression.proofs.law.expressions_are_unique.Goals as goal

pub returns : goal.returns
returns c = one_tree
