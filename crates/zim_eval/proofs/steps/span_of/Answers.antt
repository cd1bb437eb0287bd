-- What follows the three values that were answered.
use Rattle.std.proofs.Common.{refl}
use Rattle.zim_answer.specs.Answer.{◌>>=◌}
use Rattle.zim_meaning.specs.Operations.{set_between}
use Rattle.zim_meaning.specs.World.{at_place}
use Rattle.zim_eval.proofs.FollowLemmas.{behind}
use Rattle.zim_eval.proofs.steps.span_of.Goals as goal

pub returns-in-Ok-by : goal.returns-in-Ok-by
returns-in-Ok-by c = λ a b d h k l.
    behind (λ v. v) a (λ n. b >>= λ m. d >>= λ s. at_place c.args.place (set_between n m s)) c.in-Ok.from c.in-Ok.from c.args.from c.placed.result h c.in-Ok.is refl
    (behind (λ v. v) b (λ m. d >>= λ s. at_place c.args.place (set_between c.in-Ok.from m s)) c.in-Ok-to.to c.in-Ok-to.to c.args.to c.placed.result k c.in-Ok-to.is refl
    (behind (λ v. v) d (λ s. at_place c.args.place (set_between c.in-Ok.from c.in-Ok-to.to s)) c.in-Ok-by.by c.in-Ok-by.by c.args.by c.placed.result l c.in-Ok-by.is refl
    (c.placed.ensures (set_between c.in-Ok.from c.in-Ok-to.to c.in-Ok-by.by) c.set_between.ensures)))
