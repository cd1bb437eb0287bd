-- What was made so far, and the tuples of the choices that are left, are all.
use Rattle.std.proofs.Common.{◌≡◌, ◌++◌, drop}
use Rattle.zim_eval.specs.Private.{chosen_tuples}
use Rattle.zim_eval.proofs.indices.tuples_of.Given as goal

abbrev pub invariant-loop-choice : goal.invariant-loop-choice
invariant-loop-choice l = l.tuples ++ chosen_tuples (drop l.choice-index l.chosen) ≡ chosen_tuples l.chosen
