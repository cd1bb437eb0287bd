use Rattle.zim_parse.proofs.MeaningLaws.{places_are_of_tokens}
use Rattle.zim_parse.proofs.law.places_are_of_tokens.Goals as goal

pub returns : goal.returns
returns c = places_are_of_tokens
