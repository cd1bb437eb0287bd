-- The first of the two stops that holds, or none.
use Rattle.std.proofs.Common.{sym, ap, ◌∙◌}
use Rattle.zim_rational.specs.Rational.{same}
use Rattle.zim_functions.proofs.StopLemmas.{stop_unwhole, stop_zero, stop_none}
use Rattle.zim_functions.proofs.numbers.stop_of.Goals as goal

pub returns-then-not-are_integers : goal.returns-then-not-are_integers
returns-then-not-are_integers c =
    stop_unwhole c.args.a.now c.args.b.now (sym c.are_integers.ensures ∙ c.if-not-are_integers.true)

pub returns-then-same_number : goal.returns-then-same_number
returns-then-same_number c =
    stop_zero c.args.a.now c.args.b.now (sym c.are_integers.ensures ∙ c.if-not-are_integers.false) (ap (same c.args.b.now) (sym c.zero.ensures) ∙ sym c.same_number.ensures ∙ c.if-same_number.true)

pub returns : goal.returns
returns c =
    stop_none c.args.a.now c.args.b.now (sym c.are_integers.ensures ∙ c.if-not-are_integers.false) (ap (same c.args.b.now) (sym c.zero.ensures) ∙ sym c.same_number.ensures ∙ c.if-same_number.false)
