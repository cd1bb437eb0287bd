-- The powers of the size and of the denominator are the lowest terms, of which one may pass the limit.
use Rattle.std.proofs.Common.{ℕ, ◌≤◌, sym, subst}
use Rattle.zim_fraction.specs.Limit.{limit}
use Rattle.zim_rational.proofs.Parts.{lowest_from}
use Rattle.zim_fraction.proofs.PartLaws.{wrapped, raised_has}
use Rattle.zim_fraction.proofs.AnswerLaws.{number_ok, number_past, number_size_false, number_denom_false}
use Rattle.std.proofs.Common.{refl}
use Rattle.zim_fraction.proofs.powers.raised.Goals as goal

pub returns-in-None : goal.returns-in-None
returns-in-None c =
    number_past _ (number_size_false _ _ _ _ (raised_has c.args.a _ _ _ _ _ c.args.k (wrapped _ _ c.parts-n.ensures.numer c.parts-n.ensures.numer_bound) c.parts-n.ensures.denom c.unsigned_abs.ensures.value refl refl) c.in-None.ensures)

pub returns-in-None-power_within : goal.returns-in-None-power_within
returns-in-None-power_within c =
    number_past _ (number_denom_false _ _ _ _ (raised_has c.args.a _ _ _ _ _ c.args.k (wrapped _ _ c.parts-n.ensures.numer c.parts-n.ensures.numer_bound) c.parts-n.ensures.denom c.unsigned_abs.ensures.value refl refl) c.in-None-power_within.ensures)

pub of_lowest-requires-clause-lowest : goal.of_lowest-requires-clause-lowest
of_lowest-requires-clause-lowest c =
    lowest_from _ _ _ (raised_has c.args.a _ _ _ _ _ c.args.k (wrapped _ _ c.parts-n.ensures.numer c.parts-n.ensures.numer_bound) c.parts-n.ensures.denom c.unsigned_abs.ensures.value c.in-Some.ensures.1 c.in-Some-power_within.ensures.1)

pub returns : goal.returns
returns c =
    number_ok
    _
    c.of_lowest.result
    _
    _
    _
    (raised_has c.args.a _ _ _ _ _ c.args.k (wrapped _ _ c.parts-n.ensures.numer c.parts-n.ensures.numer_bound) c.parts-n.ensures.denom c.unsigned_abs.ensures.value c.in-Some.ensures.1 c.in-Some-power_within.ensures.1)
    (subst (λ (n : ℕ). n ≤ limit) (sym c.in-Some.ensures.1) c.in-Some.ensures.0)
    (subst (λ (n : ℕ). n ≤ limit) (sym c.in-Some-power_within.ensures.1) c.in-Some-power_within.ensures.0)
    c.of_lowest.ensures
