-- Denominators as the code reads them, and what is left of one without its common part with 10^15.
use Rattle.std.proofs.Common.{ℕ, ℤ, IsTrue, eqb-true, pos, negsuc, ◌≡◌, ◌<◌, ◌≤◌, ◌≤ℤ◌, ◌%◌, ◌/◌, SFits, of_z, to_z, unsigned_abs, arith, sym, ap, ap₂, subst, ◌∙◌}
use Rattle.std.specs.Int.{w128}
use Rattle.std.proofs.lemmas.Int.{to_z-of_z, fits_signed_from_abs, ints}
use lib.Signed.{quot_z}
use native.Mathlib.Nat.{div-le_self, pos_of_ne-zero}
use Rattle.std.specs.Prelude.{int_lt, List}
use Rattle.zim_rational.proofs.Lowest.{gcd_comm}
use Rattle.zim_rational.specs.Rational.{Rational}
use Rattle.zim_rational.specs.Gcd.{gcd, gcd-pos, gcd_le, div_gcd-pos}
use Rattle.zim_fraction.specs.Limit.{limit}
use Rattle.zim_fraction.proofs.PartLaws.{carried, wrapped}
use Rattle.zim_decimal.specs.Short.{scale, part, is_short, decimal_text, short_text}

-- a denominator that is read comes back
pub denom_read : (q : Rational) (z : ℤ) → z ≡ pos q.denom → q.denom ≤ limit → to_z w128 (of_z w128 z) ≡ pos q.denom
denom_read q z e bound = carried z (pos q.denom) bound e

-- the divisor that the code takes out
pub divisor_read : (d z : ℤ) → z ≡ pos (gcd (unsigned_abs d) scale) → to_z w128 (of_z w128 z) ≡ pos (gcd (unsigned_abs d) scale)
divisor_read d z e =
    let small = gcd_le (unsigned_abs d) scale (omega arith) in
    carried z (pos (gcd (unsigned_abs d) scale)) (omega arith) e

pub part_read : (d z : ℤ) → pos 1 ≤ℤ d → SFits w128 d → z ≡ pos (gcd (unsigned_abs d) scale) → quot_z (to_z w128 (of_z w128 d)) (to_z w128 (of_z w128 z)) ≡ pos (part (unsigned_abs d))
unfolding part
part_read (pos n) z h fits e = ap₂ quot_z (to_z-of_z w128 (pos n) fits) (divisor_read (pos n) z e)
part_read (negsuc n) z h fits e = absurd h.le

pub short_divides : (q : Rational) (z : ℤ) → IsTrue (is_short q) → z ≡ pos q.denom → q.denom ≤ limit → scale % unsigned_abs (to_z w128 (of_z w128 z)) ≡ 0
unfolding is_short
short_divides q z short e bound =
    ap (λ d. scale % unsigned_abs d) (denom_read q z e bound) ∙ eqb-true (scale % q.denom) 0 short

pub part_some : (d : ℤ) → pos 1 ≤ℤ d → 0 < part (unsigned_abs d)
unfolding part
part_some d h =
    let some : 0 < unsigned_abs d = omega (arith, ints) in
    subst (λ (g : ℕ). 0 < unsigned_abs d / g) (gcd_comm scale (unsigned_abs d)) (div_gcd-pos scale (unsigned_abs d) some)

part_small : (n : ℕ) → part n ≤ n
unfolding part
part_small n = div-le_self n (gcd n scale)

abs_small : (d : ℤ) → SFits w128 d → pos 1 ≤ℤ d → unsigned_abs d ≤ limit
abs_small d fits h = omega (arith, ints)

part_bound : (d : ℤ) → SFits w128 d → pos 1 ≤ℤ d → part (unsigned_abs d) ≤ limit
part_bound d fits h =
    let small = part_small (unsigned_abs d) in
    let also = abs_small d fits h in
    omega arith

-- the divisor as the call of `gcd` gives it
pub given : (d z : ℤ) → SFits w128 d → z ≡ pos (gcd (unsigned_abs (to_z w128 (of_z w128 d))) scale) → z ≡ pos (gcd (unsigned_abs d) scale)
given d z fits e = e ∙ ap (λ y. pos (gcd (unsigned_abs y) scale)) (to_z-of_z w128 d fits)

pub divisor_some : (d z : ℤ) → z ≡ pos (gcd (unsigned_abs d) scale) → 0 < of_z w128 z
divisor_some d z e =
    pos_of_ne-zero
    (λ none.
    let some : 0 < gcd (unsigned_abs d) scale = gcd-pos (unsigned_abs d) scale (omega arith) in
    let zero : 0 ≡ gcd (unsigned_abs d) scale = ap unsigned_abs (sym (ap (to_z w128) none) ∙ divisor_read d z e) in
    omega arith)

pub part_fits : (d z : ℤ) → pos 1 ≤ℤ d → SFits w128 d → z ≡ pos (gcd (unsigned_abs d) scale) → SFits w128 (quot_z (to_z w128 (of_z w128 d)) (to_z w128 (of_z w128 z)))
part_fits d z h fits e =
    let small = part_bound d fits h in
    subst (λ (y : ℤ). SFits w128 y) (sym (part_read d z h fits e)) (fits_signed_from_abs w128 (pos (part (unsigned_abs d))) (omega arith))

-- what is left of the denominator is passed on
pub part_passed : (d z : ℤ) → pos 1 ≤ℤ d → SFits w128 d → z ≡ pos (gcd (unsigned_abs d) scale) → to_z w128 (of_z w128 (quot_z (to_z w128 (of_z w128 d)) (to_z w128 (of_z w128 z)))) ≡ pos (part (unsigned_abs d))
part_passed d z h fits e =
    carried (quot_z (to_z w128 (of_z w128 d)) (to_z w128 (of_z w128 z))) (pos (part (unsigned_abs d))) (part_bound d fits h) (part_read d z h fits e)

pub part_from_one : (d z : ℤ) → pos 1 ≤ℤ d → SFits w128 d → z ≡ pos (gcd (unsigned_abs d) scale) → pos 1 ≤ℤ to_z w128 (of_z w128 (quot_z (to_z w128 (of_z w128 d)) (to_z w128 (of_z w128 z))))
part_from_one d z h fits e =
    let some = part_some d h in
    subst (λ (y : ℤ). pos 1 ≤ℤ y) (sym (part_passed d z h fits e)) (omega (arith, ints))

-- the text of the parts that are read is the number's
pub text_read : (q : Rational) (n z : ℤ) (size : ℕ) (text : List ℕ) → n ≡ q.numer → unsigned_abs n ≤ limit → z ≡ pos q.denom → q.denom ≤ limit → size ≡ unsigned_abs (to_z w128 (of_z w128 n)) → text ≡ decimal_text (int_lt (to_z w128 (of_z w128 n)) (pos 0)) size (unsigned_abs (to_z w128 (of_z w128 z))) → text ≡ short_text q
unfolding short_text
text_read q n z size text numer small denom bound is e =
    let m : to_z w128 (of_z w128 n) ≡ q.numer = wrapped n q.numer numer small in
    e
    ∙ ap (λ s. decimal_text (int_lt (to_z w128 (of_z w128 n)) (pos 0)) s (unsigned_abs (to_z w128 (of_z w128 z)))) is
    ∙ ap₂ (λ (k y : ℤ). decimal_text (int_lt k (pos 0)) (unsigned_abs k) (unsigned_abs y)) m (denom_read q z denom bound)
