use Rattle.std.proofs.Common.{◌≡◌, [], drop}
use Rattle.zim_answer.specs.Answer.{goes}
use Rattle.zim_sets.specs.Insertion.{inserted}
use Rattle.zim_sets.proofs.listing.set_of_list.Given as goal

abbrev pub invariant-loop-tuple : goal.invariant-loop-tuple
invariant-loop-tuple l = goes inserted l.made (drop l.tuple-index l.tuples) ≡ goes inserted [] l.tuples
