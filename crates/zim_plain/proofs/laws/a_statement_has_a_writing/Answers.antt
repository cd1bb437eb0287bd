use Rattle.zim_plain.proofs.WrittenLaws.{has_writing}
use Rattle.zim_plain.proofs.laws.a_statement_has_a_writing.Goals as goal

pub returns : goal.returns
returns c = has_writing
