-- The signs, sizes and denominators that the functions compute are the lowest terms of their results.
use Rattle.std.proofs.Common.{ℕ, ℤ, pos, negsuc, neg_ℤ, zero as none, suc, ◌≡◌, ◌≢◌, ◌*◌, ◌/◌, ◌%◌, ◌^◌, ◌==◌, ◌<◌, ◌≤◌, ◌&&◌, not, unsigned_abs, to_z, of_z, arith, sym, ap, subst, ◌∙◌, refl, lt-ltb}
use Rattle.std.specs.Prelude.{int_lt}
use Rattle.std.specs.Int.{w128}
use Rattle.std.proofs.lemmas.Int.{to_z-of_z, fits_signed_from_abs}
use Rattle.std.proofs.Math.Bool.{beq}
use Rattle.zim_rational.specs.Gcd.{gcd}
use Rattle.zim_rational.specs.Rational.{Rational, signed, ratio, zero, whole, times, over, negate, reciprocal}
use Rattle.zim_rational.specs.Rounding.{product_of}
use Rattle.zim_rational.proofs.Parts.{HasParts, ratio-parts, times-parts, over-parts, negate-parts, reciprocal-parts}
use Rattle.zim_rational.proofs.Powers.{product_of-parts}
use Rattle.zim_fraction.specs.Limit.{limit}

-- a number that is passed comes back
pub wrapped : (x z : ℤ) → x ≡ z → unsigned_abs x ≤ limit → to_z w128 (of_z w128 x) ≡ z
wrapped x z e small = to_z-of_z w128 x (fits_signed_from_abs w128 x (omega arith)) ∙ e

-- the same where the bound is on the other number
pub carried : (x z : ℤ) → unsigned_abs z ≤ limit → x ≡ z → to_z w128 (of_z w128 x) ≡ z
carried x z small e = wrapped x z e (subst (λ (y : ℤ). unsigned_abs y ≤ limit) (sym e) small)

pub carried_bound : (x z : ℤ) → unsigned_abs z ≤ limit → x ≡ z → unsigned_abs (to_z w128 (of_z w128 x)) ≤ limit
carried_bound x z small e = subst (λ (y : ℤ). unsigned_abs y ≤ limit) (sym (carried x z small e)) small

pub reduced_has : (m n : ℤ) (d g s t : ℕ) → m ≡ n → s ≡ unsigned_abs m → t ≡ unsigned_abs m → g ≡ gcd s d → 0 < d → HasParts (ratio n d) (signed (int_lt m (pos 0)) (t / g)) (d / g)
reduced_has m n d g s t same size also divisor some =
    rw (divisor, size, also, same) (ratio-parts n d some)

signed_negated : (n : ℤ) → signed (int_lt (pos 0) n) (unsigned_abs n) ≡ neg_ℤ n
signed_negated (pos none) = refl
signed_negated (pos (suc n)) = ap (λ b. signed b (suc n)) (lt-ltb 0 (suc n) (omega arith))
signed_negated (negsuc n) = refl

pub negated_has : (a : Rational) (m : ℤ) (d s : ℕ) → m ≡ a.numer → d ≡ a.denom → s ≡ unsigned_abs m → HasParts (negate a) (signed (int_lt (pos 0) m) s) d
negated_has a m d s numer denom size = rw (denom, size, numer, signed_negated a.numer) (negate-parts a)

pub reciprocal_has : (a : Rational) (m : ℤ) (d s : ℕ) → a ≢ zero → m ≡ a.numer → d ≡ a.denom → s ≡ unsigned_abs m → HasParts (reciprocal a) (signed (int_lt m (pos 0)) d) s
reciprocal_has a m d s some numer denom size = rw (denom, size, numer) (reciprocal-parts a some)

pub times_has : (a b : Rational) (m n : ℤ) (c d p r g h s e : ℕ) → m ≡ a.numer → c ≡ a.denom → n ≡ b.numer → d ≡ b.denom → p ≡ unsigned_abs m → r ≡ unsigned_abs n → g ≡ gcd p d → h ≡ gcd r c → s ≡ p / g * (r / h) → e ≡ c / h * (d / g) → HasParts (times a b) (signed (not (beq (int_lt m (pos 0)) (int_lt n (pos 0)))) s) e
times_has a b m n c d p r g h s e numer denom other_numer other_denom size other_size divisor other_divisor product denoms =
    rw
    (product, denoms, divisor, other_divisor, size, other_size, denom, other_denom, numer, other_numer)
    (times-parts a b)

pub over_has : (n d m k : ℤ) (p r g : ℕ) → m ≡ n → k ≡ d → p ≡ unsigned_abs m → r ≡ unsigned_abs k → g ≡ gcd p r → 0 < unsigned_abs d → HasParts (over (whole n) (whole d)) (signed (not (beq (int_lt m (pos 0)) (int_lt k (pos 0)))) (p / g)) (r / g)
over_has n d m k p r g numer denom size other_size divisor some =
    rw (divisor, size, other_size, numer, denom) (over-parts n d some)

pub raised_has : (a : Rational) (m : ℤ) (d p s e k : ℕ) → m ≡ a.numer → d ≡ a.denom → p ≡ unsigned_abs m → s ≡ p ^ k → e ≡ d ^ k → HasParts (product_of a k) (signed (int_lt m (pos 0) && (k % 2 == 1)) s) e
raised_has a m d p s e k numer denom size power other_power =
    rw
    (power, other_power, size, denom, numer)
    (let parts = product_of-parts a k in record { numer = parts.0; denom = parts.1 })
