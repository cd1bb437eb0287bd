-- What a `check` answers by its value.
use Rattle.zim_answer.specs.Answer.{◌>>=◌}
use Rattle.zim_meaning.specs.Expressions.{truth_at}
use Rattle.zim_meaning.specs.Operations.{truth_of_value}
use Rattle.zim_meaning.specs.Printing.{passes_check}
use Rattle.zim_meaning.specs.Value.{value}
use Rattle.zim_meaning.specs.World.{at_place}
use Rattle.zim_perform.proofs.doings.check.Goals as goal

pub returns : goal.returns
unfolding passes_check truth_at
returns c = c.passed.ensures (value c.args.world.now c.args.env.now c.args.tree.now >>= λ v. at_place c.args.place (truth_of_value v)) (c.truth_at.ensures (value c.args.world.now c.args.env.now c.args.tree.now) c.value.ensures)
