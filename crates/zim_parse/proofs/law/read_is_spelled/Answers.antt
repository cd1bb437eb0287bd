use Rattle.zim_parse.proofs.MeaningLaws.{read_is_spelled, spelled_is_read}
use Rattle.zim_parse.proofs.law.read_is_spelled.Goals as goal

pub returns-clause-spelled : goal.returns-clause-spelled
returns-clause-spelled c = read_is_spelled

pub returns-clause-read : goal.returns-clause-read
returns-clause-read c = spelled_is_read
