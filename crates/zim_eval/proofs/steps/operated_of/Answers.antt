-- What follows the value that was answered.
use Rattle.std.proofs.Common.{refl}
use Rattle.zim_meaning.specs.Operations.{values_operated}
use Rattle.zim_meaning.specs.World.{at_place}
use Rattle.zim_eval.proofs.FollowLemmas.{behind}
use Rattle.zim_eval.proofs.steps.operated_of.Goals as goal

pub returns-in-Ok : goal.returns-in-Ok
returns-in-Ok c = λ a h.
    behind (λ v. v) a (λ x. at_place c.args.place (values_operated c.args.token.now c.args.left.now x)) c.in-Ok.right c.in-Ok.right c.args.right c.placed.result h c.in-Ok.is refl (c.placed.ensures (values_operated c.args.token.now c.args.left.now c.in-Ok.right) c.operated.ensures)
