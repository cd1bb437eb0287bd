-- The end stands at the place.
use Rattle.zim_eval.specs.Private.{gathering_value}
use Rattle.zim_eval.proofs.gathering.end_of.Goals as goal

pub returns : goal.returns
returns c = c.placed.ensures (gathering_value c.args.state) c.end_value.ensures
