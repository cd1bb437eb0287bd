use Rattle.std.proofs.Common.{◌∙◌}
use Rattle.zim_plain.proofs.Places.{place_is_position}
use Rattle.zim_plain.proofs.suits.place.Goals as goal

pub returns : goal.returns
returns c = c.get_index_of.ensures.index ∙ place_is_position c.args.variables.now.keys c.args.name.now
