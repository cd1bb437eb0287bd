-- What was printed so far leads on to all that is printed, and begins with what was printed before.
use Rattle.std.proofs.Common.{◌≡◌, drop}
use Rattle.zim_answer.specs.Answer.{goes}
use Rattle.zim_perform.specs.Performing.{Continues}
use Rattle.zim_perform.specs.Private.{done_at, done_at_each}
use Rattle.zim_perform.proofs.doings.+performing.Given as goal

abbrev pub invariant-perform_at_each-loop-choice : goal.invariant-perform_at_each-loop-choice
invariant-perform_at_each-loop-choice l = (goes (done_at l.world l.tree) l.printed (drop l.choice-index l.choices) ≡ done_at_each l.world l.tree l.fn.printed l.choices) × Continues l.fn.printed l.printed
