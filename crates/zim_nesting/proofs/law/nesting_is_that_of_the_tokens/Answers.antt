use Rattle.zim_nesting.proofs.StatementNesting.{nests_as_its_tokens}
use Rattle.zim_nesting.proofs.law.nesting_is_that_of_the_tokens.Goals as goal

pub returns : goal.returns
returns c = nests_as_its_tokens
