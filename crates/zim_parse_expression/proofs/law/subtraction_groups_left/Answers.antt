use Rattle.zim_parse_expression.proofs.FlatSums.{operands_are_no_sums}
use Rattle.zim_parse_expression.proofs.Grouping.{subtraction_groups_left}
use Rattle.zim_parse_expression.proofs.law.subtraction_groups_left.Goals as goal

pub returns-clause-operands : goal.returns-clause-operands
returns-clause-operands c = operands_are_no_sums

pub returns-clause-shown : goal.returns-clause-shown
returns-clause-shown c = subtraction_groups_left
