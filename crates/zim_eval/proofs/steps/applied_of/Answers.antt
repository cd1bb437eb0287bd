-- What follows the value that was answered.
use Rattle.zim_meaning.specs.Operations.{word_applied}
use Rattle.zim_meaning.specs.World.{at_place}
use Rattle.zim_eval.proofs.FollowLemmas.{behind}
use Rattle.zim_eval.proofs.steps.applied_of.Goals as goal

pub returns-in-Ok : goal.returns-in-Ok
returns-in-Ok c = λ a h.
    behind (λ v. v) a (λ x. at_place c.args.place (word_applied c.args.word x)) c.in-Ok.given c.as_slice.result.now c.args.given c.placed.result h c.in-Ok.is c.as_slice.ensures (c.placed.ensures (word_applied c.args.word c.as_slice.result.now) c.applied.ensures)
