-- Quotients and rests give the whole numbers near a fraction.
use Rattle.std.proofs.Common.{ℕ, ℤ, pos, negsuc, ◌≡◌, ◌≤◌, unsigned_abs, to_z, arith, refl, sym, ap, ap₂, subst₂, ◌∙◌, le-ltb}
use Rattle.std.specs.Prelude.{int_lt}
use Rattle.std.specs.Int.{w128, int_div_euclid}
use Rattle.std.proofs.lemmas.Int.{to_z_pos}
use Rattle.zim_rational.specs.Rational.{Rational, signed, whole}
use Rattle.zim_rational.specs.Rounding.{floor, round}
use Rattle.zim_rational.proofs.Rounding.{IsNearest, round_above, round_under}
use Rattle.zim_fraction.specs.Limit.{limit}

pub floor_is : (a q : Rational) (m z r w : ℤ) → m ≡ a.numer → z ≡ pos a.denom → r ≡ int_div_euclid m z → w ≡ r → q ≡ whole w → q ≡ floor a
unfolding floor
floor_is a q m z r w numer denom quotient same e =
    e ∙ ap whole (same ∙ quotient ∙ ap₂ int_div_euclid numer denom)

-- a denominator that is passed as a signed number
pub signed_denom : (a : Rational) (d : ℕ) → d ≡ a.denom → d ≤ limit → to_z w128 d ≡ pos a.denom
signed_denom a d e small = to_z_pos w128 d (omega arith) ∙ ap pos e

round_by_sign : (a : Rational) (k : ℕ) (n : ℤ) → a.numer ≡ n → IsNearest (unsigned_abs n) a.denom k → round a ≡ whole (signed (int_lt n (pos 0)) k)
round_by_sign a k (pos m) e near =
    round_above a m k e near ∙ ap (λ b. whole (signed b k)) (sym (le-ltb m 0 (omega arith)))
round_by_sign a k (negsuc m) e near = round_under a m k e near

pub round_is : (a q : Rational) (m s w : ℤ) (d size k : ℕ) → m ≡ a.numer → d ≡ a.denom → size ≡ unsigned_abs m → IsNearest size d k → s ≡ signed (int_lt m (pos 0)) k → w ≡ s → q ≡ whole w → q ≡ round a
round_is a q m s w d size k numer denom same near sign passed e =
    e ∙ ap whole (passed ∙ sign ∙ ap (λ n. signed (int_lt n (pos 0)) k) numer) ∙ sym (round_by_sign a k a.numer refl (subst₂ (λ (n c : ℕ). IsNearest n c k) (same ∙ ap unsigned_abs numer) denom near))
