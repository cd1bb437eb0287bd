-- The order of two numbers says which one is the larger.
use Rattle.std.proofs.Common.{sym, ◌∙◌}
use Rattle.zim_operators.proofs.OrderLemmas.{larger_less, larger_equal, larger_greater}
use Rattle.zim_operators.proofs.extremes.larger.Goals as goal

pub returns-in-Less : goal.returns-in-Less
returns-in-Less c = larger_less c.args.p c.args.q (sym c.compare.ensures ∙ c.in-Less.is)

pub returns-in-Equal : goal.returns-in-Equal
returns-in-Equal c = larger_equal c.args.p c.args.q (sym c.compare.ensures ∙ c.in-Equal.is)

pub returns-in-Greater : goal.returns-in-Greater
returns-in-Greater c = larger_greater c.args.p c.args.q (sym c.compare.ensures ∙ c.in-Greater.is)
