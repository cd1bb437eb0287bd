-- The numbers from here on lead from the form so far to the product.
use Rattle.std.proofs.Common.{◌≡◌, drop}
use Rattle.zim_answer.specs.Answer.{goes}
use Rattle.zim_vabs.specs.Turns.{further_factor}
use Rattle.zim_vabs.proofs.terms.product.Given as goal

abbrev pub invariant-loop-other : goal.invariant-loop-other
invariant-loop-other l = goes further_factor l.form (drop l.other-index l.others) ≡ goes further_factor l.initial.form l.others
