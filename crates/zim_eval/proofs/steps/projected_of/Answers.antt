-- What follows the two values that were answered.
use Rattle.std.proofs.Common.{refl}
use Rattle.zim_answer.specs.Answer.{◌>>=◌}
use Rattle.zim_meaning.specs.Operations.{projection}
use Rattle.zim_meaning.specs.World.{at_place}
use Rattle.zim_eval.proofs.FollowLemmas.{behind}
use Rattle.zim_eval.proofs.steps.projected_of.Goals as goal

pub returns-in-Ok-given : goal.returns-in-Ok-given
returns-in-Ok-given c = λ a b h k.
    behind (λ v. v) a (λ v. b >>= λ vs. at_place c.args.place (projection v vs)) c.in-Ok.set c.in-Ok.set c.args.set c.placed.result h c.in-Ok.is refl
    (behind (λ v. v) b (λ vs. at_place c.args.place (projection c.in-Ok.set vs)) c.in-Ok-given.given c.as_slice.result.now c.args.given c.placed.result k c.in-Ok-given.is c.as_slice.ensures
    (c.placed.ensures (projection c.in-Ok.set c.as_slice.result.now) c.projection.ensures))
