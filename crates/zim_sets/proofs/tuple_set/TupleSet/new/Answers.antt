use Rattle.zim_sets.proofs.SetLemmas.{empty_is_set}
use Rattle.zim_sets.proofs.tuple_set.TupleSet.new.Goals as goal

pub invariant_of-result : goal.invariant_of-result
invariant_of-result c = rw c.new.ensures empty_is_set
