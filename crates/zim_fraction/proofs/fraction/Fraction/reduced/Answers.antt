-- What is left of both numbers by their greatest common divisor is in lowest terms.
use Rattle.std.specs.Int.{w128}
use Rattle.std.proofs.Common.{◌∙◌}
use Rattle.std.proofs.lemmas.Int.{to_z-of_z}
use Rattle.zim_rational.proofs.Parts.{lowest_from, ratio_from}
use Rattle.zim_fraction.proofs.PartLaws.{reduced_has}
use Rattle.zim_fraction.proofs.fraction.Fraction.reduced.Goals as goal

pub of_lowest-requires-clause-lowest : goal.of_lowest-requires-clause-lowest
of_lowest-requires-clause-lowest c =
    lowest_from _ _ _ (reduced_has _ c.args.n c.args.d _ _ _ (to_z-of_z w128 c.args.n c.ranges.n) c.unsigned_abs.ensures.value c.unsigned_abs-2.ensures.value c.common_divisor-g.ensures.value c.requires.positive)

pub returns : goal.returns
returns c =
    c.of_lowest.ensures ∙ ratio_from _ _ _ (reduced_has _ c.args.n c.args.d _ _ _ (to_z-of_z w128 c.args.n c.ranges.n) c.unsigned_abs.ensures.value c.unsigned_abs-2.ensures.value c.common_divisor-g.ensures.value c.requires.positive)
