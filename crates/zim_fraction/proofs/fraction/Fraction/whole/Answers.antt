-- A whole number over 1 is in lowest terms.
use Rattle.std.specs.Int.{w128}
use Rattle.std.proofs.lemmas.Int.{to_z-of_z}
use Rattle.zim_fraction.proofs.FieldLemmas.{kept_whole, ratio_whole}
use Rattle.zim_fraction.proofs.fraction.Fraction.whole.Goals as goal

pub invariant_of-result : goal.invariant_of-result
invariant_of-result c = rw (to_z-of_z w128 c.args.n c.ranges.n) (kept_whole c.args.n c.requires)

pub returns : goal.returns
returns c = rw (to_z-of_z w128 c.args.n c.ranges.n) (ratio_whole c.args.n)
