-- The ceiling is the negated floor of the negated number.
use Rattle.std.proofs.Common.{ap, ◌∙◌}
use Rattle.zim_rational.specs.Rational.{negate}
use Rattle.zim_rational.specs.Rounding.{floor, ceil}
use Rattle.zim_fraction.proofs.rounding.ceil.Goals as goal

pub returns : goal.returns
unfolding ceil
returns c = c.negated-2.ensures ∙ ap negate (c.floor.ensures ∙ ap floor c.negated.ensures)
