use Rattle.zim_parse.proofs.OneStatement.{parser_reads_statements}
use Rattle.zim_parse.proofs.law.parser_reads_statements.Goals as goal

pub returns : goal.returns
returns c = parser_reads_statements
