-- The floor is the quotient whose rest is not negative.
use Rattle.std.proofs.Common.{SFits}
use Rattle.std.proofs.Common.{rules}
use Rattle.std.specs.Int.{w128}
use Rattle.std.proofs.lemmas.Int.{to_z-of_z}
use Rattle.zim_fraction.proofs.PartLaws.{wrapped}
use Rattle.zim_fraction.proofs.RoundingLemmas.{floor_is, signed_denom}
use Rattle.zim_fraction.proofs.rounding.floor.Goals as goal

pub returns : goal.returns
returns c =
    let fits : SFits w128 c.div_euclid.result = search rules in
    floor_is c.args.a c.whole.result _ _ _ _ (wrapped _ _ c.parts-n.ensures.numer c.parts-n.ensures.numer_bound) (signed_denom c.args.a _ c.parts-n.ensures.denom c.parts-n.ensures.denom_bound) c.div_euclid.ensures (to_z-of_z w128 c.div_euclid.result fits) c.whole.ensures
