-- The best so far leads on to the whole answer.
use Rattle.std.proofs.Common.{◌≡◌, None, drop}
use Rattle.zim_answer.specs.Answer.{goes}
use Rattle.zim_meaning.specs.Operations.{best_with_tuple}
use Rattle.zim_operators.proofs.extremes.best_of_tuples.Given as goal

abbrev pub invariant-loop-tuple : goal.invariant-loop-tuple
invariant-loop-tuple l = goes (best_with_tuple l.greatest) l.best (drop l.tuple-index l.tuples) ≡ goes (best_with_tuple l.greatest) None l.tuples
