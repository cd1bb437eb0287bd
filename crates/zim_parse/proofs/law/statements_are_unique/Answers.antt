use Rattle.zim_parse.proofs.OneStatement.{one_statement}
use Rattle.zim_parse.proofs.law.statements_are_unique.Goals as goal

pub returns : goal.returns
returns c = one_statement
