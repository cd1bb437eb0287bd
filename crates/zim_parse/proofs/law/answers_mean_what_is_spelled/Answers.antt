use Rattle.zim_parse.proofs.MeaningLaws.{means_what_is_spelled}
use Rattle.zim_parse.proofs.law.answers_mean_what_is_spelled.Goals as goal

pub returns : goal.returns
returns c = means_what_is_spelled
