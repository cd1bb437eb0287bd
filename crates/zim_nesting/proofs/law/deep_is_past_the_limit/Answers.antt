use Rattle.zim_nesting.proofs.DeepLemmas as lemmas
use Rattle.zim_nesting.proofs.law.deep_is_past_the_limit.Goals as goal

pub returns : goal.returns
returns c = lemmas.deep_is_past_the_limit
