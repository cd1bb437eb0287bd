use Rattle.zim_plain.proofs.WrittenLaws.{spelled_as_written}
use Rattle.zim_plain.proofs.laws.a_statement_is_spelled_as_written.Goals as goal

pub returns : goal.returns
returns c = spelled_as_written
