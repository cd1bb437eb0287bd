-- The nearest whole number is the quotient of the sizes, or the next one from a rest of half of the divisor up.
use Rattle.std.proofs.Common.{SFits, rules, ℕ, subst, sym}
use Rattle.std.specs.Int.{w128}
use Rattle.std.proofs.lemmas.Int.{to_z-of_z}
use Rattle.zim_rational.proofs.Rounding.{IsNearest, nearest_next, nearest_quotient}
use Rattle.zim_fraction.proofs.PartLaws.{wrapped}
use Rattle.zim_fraction.proofs.RoundingLemmas.{round_is}
use Rattle.zim_fraction.proofs.rounding.round.Goals as goal
use Rattle.zim_fraction.proofs.rounding.round.Goals.{then-d-rest, else-d-rest}

pub returns : goal.returns
returns c =
    let fits : SFits w128 c.signed.result = search rules in
    let size : ℕ = c.unsigned_abs-size.result in
    let d : ℕ = c.parts-n.result.1 in
    let near : IsNearest size d c.if-d-rest.nearest =
    elim c.if-d-rest.branch [
      | then-d-rest w ↦
          subst (λ (k : ℕ). IsNearest size d k) (sym w.nearest-is) (nearest_next size d c.parts-n.ensures.positive w.if-d-rest.true)
      | else-d-rest w ↦
          subst (λ (k : ℕ). IsNearest size d k) (sym w.nearest-is) (nearest_quotient size d c.parts-n.ensures.positive w.if-d-rest.false)
    ] in
    round_is c.args.a c.whole.result _ c.signed.result _ d size _ (wrapped _ _ c.parts-n.ensures.numer c.parts-n.ensures.numer_bound) c.parts-n.ensures.denom c.unsigned_abs-size.ensures.value near c.signed.ensures (to_z-of_z w128 c.signed.result fits) c.whole.ensures
