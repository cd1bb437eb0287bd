-- The sign changes, the lowest terms stay.
use Rattle.std.proofs.Common.{◌∙◌}
use Rattle.zim_rational.proofs.Parts.{ratio_from}
use Rattle.zim_fraction.proofs.PartLaws.{wrapped, negated_has}
use Rattle.zim_fraction.proofs.sum.negated.Goals as goal

pub returns : goal.returns
returns c =
    c.of_lowest.ensures ∙ ratio_from _ _ _ (negated_has c.args.a _ _ _ (wrapped _ _ c.parts-n.ensures.numer c.parts-n.ensures.numer_bound) c.parts-n.ensures.denom c.unsigned_abs.ensures.value)
