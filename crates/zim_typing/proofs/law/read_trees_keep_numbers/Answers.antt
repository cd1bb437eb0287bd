-- By the rules of the grammar.
use Rattle.zim_typing.proofs.ReadNumberLaws.{read_keeps, statement_keeps}
use Rattle.zim_typing.proofs.law.read_trees_keep_numbers.Goals as goal

pub returns-clause-expression : goal.returns-clause-expression
returns-clause-expression c = λ level ts e d kept. read_keeps d kept

pub returns-clause-statement : goal.returns-clause-statement
returns-clause-statement c = λ ts stmt d kept. statement_keeps d kept
