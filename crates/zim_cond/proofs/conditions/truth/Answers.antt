-- What a condition makes is a literal that is its truth.
use Rattle.zim_cond.proofs.ConditionCallLemmas.{literal_made}
use Rattle.zim_cond.proofs.conditions.truth.Goals as goal

pub returns-clause-made : goal.returns-clause-made
returns-clause-made c = literal_made c.args.from c.args.c.now c.args.system.now _ _ c.valid.ensures c.requires c.condition.ensures
