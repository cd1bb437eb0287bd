-- The least common multiple: both numbers divide it, and it divides each number that both divide.
use Rattle.std.proofs.Common.{ℕ, ◌≡◌, ◌*◌, ◌/◌, ◌<◌, arith, sym, ap, ap₂, subst, subst₂, ◌∙◌, mul_comm, mul-pos}
use Rattle.std.specs.Int.{◌∣◌}
use native.Mathlib.Nat.{mul-div_assoc, mul-div_cancel', dvd-mul_right, mul-dvd-mul_left, dvd_of_mul-dvd-mul_left}
use Rattle.zim_rational.specs.Gcd.{gcd, gcd-is, gcd-pos, gcd_lowest, div_gcd-pos, divides_other, lcm}
use Rattle.zim_rational.proofs.Lowest.{gcd_comm}

pub lcm_is : (a b : ℕ) → lcm a b ≡ a * (b / gcd a b)
unfolding lcm
lcm_is a b = mul-div_assoc (gcd a b) a ((gcd-is a b).1)

pub lcm_comm : (a b : ℕ) → lcm a b ≡ lcm b a
unfolding lcm
lcm_comm a b = ap₂ (λ m n. m / n) (mul_comm a b) (gcd_comm a b)

pub lcm-pos : (a b : ℕ) → 0 < a → 0 < b → 0 < lcm a b
lcm-pos a b some more =
    subst (λ (n : ℕ). 0 < n) (sym (lcm_is a b)) (mul-pos some (div_gcd-pos a b more))

pub left_divides : (a b : ℕ) → a ∣ lcm a b
left_divides a b = subst (λ (n : ℕ). a ∣ n) (sym (lcm_is a b)) (dvd-mul_right a (b / gcd a b))

pub right_divides : (a b : ℕ) → b ∣ lcm a b
right_divides a b = subst (λ (n : ℕ). b ∣ n) (lcm_comm b a) (left_divides b a)

pub left_times : (a b : ℕ) → a * (lcm a b / a) ≡ lcm a b
left_times a b = mul-div_cancel' a (left_divides a b)

pub right_times : (a b : ℕ) → b * (lcm a b / b) ≡ lcm a b
right_times a b = mul-div_cancel' b (right_divides a b)

regrouped : (g a x : ℕ) → g * a * x ≡ g * (x * a)
regrouped g a x = omega arith

-- it divides each number that both divide
pub lcm_least : (a b m : ℕ) → 0 < b → a ∣ m → b ∣ m → lcm a b ∣ m
lcm_least a b m some left right =
    let g : ℕ = gcd a b in
    let x : ℕ = m / a in
    let a' : ℕ = a / g in
    let b' : ℕ = b / g in
    let whole : a * x ≡ m = mul-div_cancel' a left in
    let of_a : g * a' ≡ a = mul-div_cancel' g ((gcd-is a b).0) in
    let of_b : g * b' ≡ b = mul-div_cancel' g ((gcd-is a b).1) in
    let over : g * b' ∣ g * (x * a') =
    subst₂ (λ (p q : ℕ). p ∣ q) (sym of_b) (sym whole ∙ ap (λ n. n * x) (sym of_a) ∙ regrouped g a' x) right in
    let other : b' ∣ x =
    divides_other a' b' x (gcd_lowest a b some) (dvd_of_mul-dvd-mul_left b' (gcd-pos a b some) over) in
    subst₂ (λ (p q : ℕ). p ∣ q) (sym (lcm_is a b)) whole (mul-dvd-mul_left b' a other)
