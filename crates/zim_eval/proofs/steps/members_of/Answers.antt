-- What follows the value that was answered.
use Rattle.zim_meaning.specs.Operations.{set_of_members}
use Rattle.zim_meaning.specs.World.{at_place}
use Rattle.zim_eval.proofs.FollowLemmas.{behind}
use Rattle.zim_eval.proofs.steps.members_of.Goals as goal

pub returns-in-Ok : goal.returns-in-Ok
returns-in-Ok c = λ a h.
    behind (λ v. v) a (λ x. at_place c.args.place (set_of_members x)) c.in-Ok.given c.as_slice.result.now c.args.given c.placed.result h c.in-Ok.is c.as_slice.ensures (c.placed.ensures (set_of_members c.as_slice.result.now) c.set_of_members.ensures)
