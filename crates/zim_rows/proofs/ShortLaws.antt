-- Which multiples of a number are short: those by a multiple of what is left of its denominator.
use Rattle.std.proofs.Common.{ℕ, pos, ◌≡◌, ◌*◌, ◌/◌, ◌%◌, ◌<◌, IsTrue, arith, sym, ap, subst, subst₂, ◌∙◌}
use Rattle.std.specs.Int.{◌∣◌}
use Rattle.std.proofs.lemmas.Bool.{eqb-true, eq-eqb}
use Rattle.std.proofs.lemmas.Nat.Gcd.{dvd_of_mod-eq-zero, mod-eq-zero_of_dvd, dvd_trans}
use native.Mathlib.Nat.{mul-div_cancel', dvd-mul_right, mul-dvd-mul_left, dvd_of_mul-dvd-mul_left}
use Rattle.zim_rational.specs.Gcd.{gcd, gcd-is, gcd-pos, gcd_lowest, div_gcd-pos, divides_other}
use Rattle.zim_rational.specs.Rational.{Rational, whole, times, is_whole}
use Rattle.zim_rational.proofs.Fraction.{denom-pos}
use Rattle.zim_rational.proofs.Lowest.{gcd_comm}
use Rattle.zim_rational.proofs.Ring.{times_assoc}
use Rattle.zim_rational.proofs.Whole.{whole_times}
use Rattle.zim_decimal.specs.Short.{scale, part, is_short}
use Rattle.zim_linear.proofs.WholeFormLaws.{whole_from_divides, divides_from_whole}
use Rattle.zim_rows.specs.Factors.{times_factor}

pub short_from_divides : (q : Rational) → q.denom ∣ scale → IsTrue (is_short q)
unfolding is_short
short_from_divides q d = eq-eqb (scale % q.denom) 0 (mod-eq-zero_of_dvd q.denom d)

pub divides_from_short : (q : Rational) → IsTrue (is_short q) → q.denom ∣ scale
unfolding is_short
divides_from_short q h = dvd_of_mod-eq-zero q.denom (eqb-true (scale % q.denom) 0 h)

-- what is left of a denominator is at least 1
pub part-pos : (d : ℕ) → 0 < d → 0 < part d
unfolding part
part-pos d some = subst (λ (g : ℕ). 0 < d / g) (gcd_comm scale d) (div_gcd-pos scale d some)

regrouped : (g p a s : ℕ) → g * (p * a * s) ≡ p * a * (g * s)
regrouped g p a s = omega arith

-- a denominator divides a multiple of 10^15 where what is left of it divides the multiplier
pub times_scale : (d m : ℕ) → part d ∣ m → d ∣ m * scale
unfolding part
times_scale d m h =
    let g : ℕ = gcd d scale in
    let of_d : g * (d / g) ≡ d = mul-div_cancel' g ((gcd-is d scale).0) in
    let of_scale : g * (scale / g) ≡ scale = mul-div_cancel' g ((gcd-is d scale).1) in
    let whole : d / g * (m / (d / g)) ≡ m = mul-div_cancel' (d / g) h in
    subst₂
    (λ (a b : ℕ). a ∣ b)
    of_d
    (regrouped g (d / g) (m / (d / g)) (scale / g) ∙ ap (λ n. n * (g * (scale / g))) whole ∙ ap (λ n. m * n) of_scale)
    (mul-dvd-mul_left (d / g) g (dvd_trans (d / g) (dvd-mul_right (d / g) (m / (d / g))) (dvd-mul_right (d / g * (m / (d / g))) (scale / g))))

shifted : (g m s : ℕ) → m * (g * s) ≡ g * (m * s)
shifted g m s = omega arith

-- and nowhere else
pub from_times_scale : (d m : ℕ) → 0 < d → d ∣ m * scale → part d ∣ m
unfolding part
from_times_scale d m some h =
    let g : ℕ = gcd d scale in
    let of_d : g * (d / g) ≡ d = mul-div_cancel' g ((gcd-is d scale).0) in
    let of_scale : g * (scale / g) ≡ scale = mul-div_cancel' g ((gcd-is d scale).1) in
    let over : g * (d / g) ∣ g * (m * (scale / g)) =
    subst₂ (λ (a b : ℕ). a ∣ b) (sym of_d) (ap (λ n. m * n) (sym of_scale) ∙ shifted g m (scale / g)) h in
    let rest : d / g ∣ m * (scale / g) = dvd_of_mul-dvd-mul_left (d / g) (gcd-pos d scale (omega arith)) over in
    divides_other (scale / g) (d / g) m (gcd_comm (scale / g) (d / g) ∙ gcd_lowest d scale (omega arith)) rest

-- k times a number, times 10^15
times_both : (q : Rational) (k : ℕ) → times (times_factor k q) (whole (pos scale)) ≡ times q (whole (pos (k * scale)))
unfolding times_factor
times_both q k = times_assoc q (whole (pos k)) (whole (pos scale)) ∙ ap (times q) (whole_times (pos k) (pos scale))

-- k times a number is short where what is left of its denominator divides k
pub short_times : (q : Rational) (k : ℕ) → part q.denom ∣ k → IsTrue (is_short (times_factor k q))
short_times q k h =
    short_from_divides
    (times_factor k q)
    (divides_from_whole
    (times_factor k q)
    scale
    (subst (λ (r : Rational). IsTrue (is_whole r)) (sym (times_both q k)) (whole_from_divides q (k * scale) (times_scale q.denom k h))))

-- and nowhere else
pub from_short_times : (q : Rational) (k : ℕ) → IsTrue (is_short (times_factor k q)) → part q.denom ∣ k
from_short_times q k h =
    from_times_scale
    q.denom
    k
    (denom-pos q)
    (divides_from_whole
    q
    (k * scale)
    (subst (λ (r : Rational). IsTrue (is_whole r)) (times_both q k) (whole_from_divides (times_factor k q) scale (divides_from_short (times_factor k q) h))))
