-- What the name has at the index that was answered.
use Rattle.std.proofs.Common.{refl}
use Rattle.zim_meaning.specs.Expressions.{indexed_name_value}
use Rattle.zim_meaning.specs.World.{at_place, entry}
use Rattle.zim_eval.proofs.FollowLemmas.{behind}
use Rattle.zim_eval.proofs.names.item_at.Goals as goal

pub returns-in-Ok : goal.returns-in-Ok
returns-in-Ok c = λ a h.
    behind (λ v. v) a (λ t. at_place c.args.place (entry (indexed_name_value c.args.world.now c.args.name.now c.args.resolved t))) c.in-Ok.index c.in-Ok.index c.args.index c.found_at.result h c.in-Ok.is refl
    (c.found_at.ensures (indexed_name_value c.args.world.now c.args.name.now c.args.resolved c.in-Ok.index) c.indexed_name.ensures)
