-- The size and the denominator change places.
use Rattle.std.proofs.Common.{◌∙◌}
use Rattle.zim_rational.proofs.Parts.{lowest_from, ratio_from}
use Rattle.zim_fraction.proofs.PartLaws.{wrapped, reciprocal_has}
use Rattle.zim_fraction.proofs.product.reciprocal.Goals as goal

pub of_lowest-requires-clause-lowest : goal.of_lowest-requires-clause-lowest
of_lowest-requires-clause-lowest c =
    lowest_from _ _ _ (reciprocal_has c.args.a _ _ _ c.requires (wrapped _ _ c.parts-n.ensures.numer c.parts-n.ensures.numer_bound) c.parts-n.ensures.denom c.unsigned_abs.ensures.value)

pub returns : goal.returns
returns c =
    c.of_lowest.ensures ∙ ratio_from _ _ _ (reciprocal_has c.args.a _ _ _ c.requires (wrapped _ _ c.parts-n.ensures.numer c.parts-n.ensures.numer_bound) c.parts-n.ensures.denom c.unsigned_abs.ensures.value)
