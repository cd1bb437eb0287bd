-- A number is at least 0, or it is turned.
use Rattle.std.proofs.Common.{sym, ap, ◌∙◌}
use Rattle.zim_rational.specs.Rational.{rational_cmp}
use Rattle.zim_operators.proofs.OrderLemmas.{absolute_less, absolute_equal, absolute_greater}
use Rattle.zim_operators.proofs.words.absolute.Goals as goal

pub returns-in-Less : goal.returns-in-Less
returns-in-Less c = absolute_less c.args.number (ap (λ z. rational_cmp z c.args.number) (sym c.zero.ensures) ∙ sym c.compare.ensures ∙ c.in-Less.is)

pub returns-in-Equal : goal.returns-in-Equal
returns-in-Equal c = absolute_equal c.args.number (ap (λ z. rational_cmp z c.args.number) (sym c.zero.ensures) ∙ sym c.compare.ensures ∙ c.in-Equal.is)

pub returns-in-Greater : goal.returns-in-Greater
returns-in-Greater c = c.negated.ensures ∙ absolute_greater c.args.number (ap (λ z. rational_cmp z c.args.number) (sym c.zero.ensures) ∙ sym c.compare.ensures ∙ c.in-Greater.is)
