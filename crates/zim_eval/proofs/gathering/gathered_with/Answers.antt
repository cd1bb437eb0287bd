-- What follows the value that was answered.
use Rattle.std.proofs.Common.{refl}
use Rattle.zim_meaning.specs.World.{at_place}
use Rattle.zim_eval.specs.Private.{gathering_with_value}
use Rattle.zim_eval.proofs.FollowLemmas.{behind}
use Rattle.zim_eval.proofs.gathering.gathered_with.Goals as goal

pub returns-in-Ok : goal.returns-in-Ok
returns-in-Ok c = λ a h.
    behind (λ v. v) a (λ x. at_place c.args.place (gathering_with_value c.args.state c.args.tuple.now x)) c.in-Ok.value c.in-Ok.value c.args.value c.placed.result h c.in-Ok.is refl
    (c.placed.ensures (gathering_with_value c.args.state c.args.tuple.now c.in-Ok.value) c.with_value.ensures)
