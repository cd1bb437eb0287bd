-- The order of 0 and a number says whether the number is at least 0.
use Rattle.std.proofs.Common.{sym, ap, ◌∙◌}
use Rattle.zim_rational.specs.Rational.{rational_cmp, zero}
use Rattle.zim_operators.proofs.OrderLemmas.{at_most_less, at_most_equal, at_most_greater}
use Rattle.zim_operators.proofs.arithmetic.is_from_zero.Goals as goal

pub returns-in-Less : goal.returns-in-Less
returns-in-Less c = sym (at_most_less zero c.args.number.now (ap (λ z. rational_cmp z c.args.number.now) (sym c.zero.ensures) ∙ sym c.compare.ensures ∙ c.in-Less.is))

pub returns-in-Equal : goal.returns-in-Equal
returns-in-Equal c = sym (at_most_equal zero c.args.number.now (ap (λ z. rational_cmp z c.args.number.now) (sym c.zero.ensures) ∙ sym c.compare.ensures ∙ c.in-Equal.is))

pub returns-in-Greater : goal.returns-in-Greater
returns-in-Greater c = sym (at_most_greater zero c.args.number.now (ap (λ z. rational_cmp z c.args.number.now) (sym c.zero.ensures) ∙ sym c.compare.ensures ∙ c.in-Greater.is))
