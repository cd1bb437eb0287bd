-- The best so far leads on to the whole answer.
use Rattle.std.proofs.Common.{◌≡◌, None, drop}
use Rattle.zim_answer.specs.Answer.{goes}
use Rattle.zim_meaning.specs.Operations.{best_with}
use Rattle.zim_operators.proofs.extremes.best_of_values.Given as goal

abbrev pub invariant-loop-value : goal.invariant-loop-value
invariant-loop-value l = goes (best_with l.greatest) l.best (drop l.value-index l.values) ≡ goes (best_with l.greatest) None l.values
