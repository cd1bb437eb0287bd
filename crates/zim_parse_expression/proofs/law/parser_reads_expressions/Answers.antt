use Rattle.zim_parse_expression.proofs.OneTreeLaws.{parser_reads}
use Rattle.zim_parse_expression.proofs.law.parser_reads_expressions.Goals as goal

pub returns : goal.returns
returns c = parser_reads
