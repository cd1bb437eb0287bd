use Rattle.zim_answer.proofs.GoesLemmas.{goes-append}
use Rattle.zim_answer.proofs.going_on_joins.Goals as goal

pub returns : goal.returns
returns g c = goes-append
