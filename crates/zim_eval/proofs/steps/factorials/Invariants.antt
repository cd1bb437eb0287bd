-- The value so far leads on to the whole answer.
use Rattle.std.proofs.Common.{◌≡◌, drop}
use Rattle.zim_answer.specs.Answer.{goes}
use Rattle.zim_eval.specs.Private.{repeated_factorial}
use Rattle.zim_eval.proofs.steps.factorials.Given as goal

abbrev pub invariant-loop-place : goal.invariant-loop-place
invariant-loop-place l = goes repeated_factorial l.value (drop l.place-index l.places) ≡ goes repeated_factorial l.fn.value l.places
