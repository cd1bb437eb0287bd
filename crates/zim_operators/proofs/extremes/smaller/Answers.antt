-- The order of two numbers says which one is the smaller.
use Rattle.std.proofs.Common.{sym, ◌∙◌}
use Rattle.zim_operators.proofs.OrderLemmas.{smaller_less, smaller_equal, smaller_greater}
use Rattle.zim_operators.proofs.extremes.smaller.Goals as goal

pub returns-in-Less : goal.returns-in-Less
returns-in-Less c = smaller_less c.args.p c.args.q (sym c.compare.ensures ∙ c.in-Less.is)

pub returns-in-Equal : goal.returns-in-Equal
returns-in-Equal c = smaller_equal c.args.p c.args.q (sym c.compare.ensures ∙ c.in-Equal.is)

pub returns-in-Greater : goal.returns-in-Greater
returns-in-Greater c = smaller_greater c.args.p c.args.q (sym c.compare.ensures ∙ c.in-Greater.is)
