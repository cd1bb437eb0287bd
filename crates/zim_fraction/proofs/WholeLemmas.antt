-- Sums and products of whole numbers below 2^63 fit, and are those of the fractions.
use Rattle.std.proofs.Common.{ℕ, ℤ, ◌≡◌, ◌^◌, ◌<◌, ◌≤◌, ◌*ℤ◌, ◌+ℤ◌, unsigned_abs, to_z, of_z, SFits, arith, sym, ap, ap₂, subst, ◌∙◌, eq-eqb}
use Rattle.std.specs.Int.{w128}
use Rattle.std.proofs.lemmas.Int.{to_z-of_z, fits_signed_from_abs, unsigned_abs-mul}
use Rattle.std.proofs.lemmas.Nat.{mul-lt}
use Rattle.std.proofs.lemmas.Int.{ints}
use Rattle.zim_rational.specs.Rational.{Rational, whole, times, plus, is_whole}
use Rattle.zim_rational.proofs.Whole.{whole_times, whole_plus, is_whole_whole}
use Rattle.zim_fraction.specs.Limit.{limit}

product_below : (m n : ℤ) → unsigned_abs m < 2 ^ 63 → unsigned_abs n < 2 ^ 63 → unsigned_abs (m *ℤ n) < 2 ^ 126
product_below m n h k =
    subst
    (λ (s : ℕ). s < 2 ^ 126)
    (sym (unsigned_abs-mul m n))
    (mul-lt (unsigned_abs m) (unsigned_abs n) (2 ^ 63) (2 ^ 63) h k)

pub product_fits : (m n : ℤ) → unsigned_abs m < 2 ^ 63 → unsigned_abs n < 2 ^ 63 → SFits w128 (m *ℤ n)
product_fits m n h k =
    fits_signed_from_abs w128 (m *ℤ n) (let below = product_below m n h k in omega arith)

pub product_bound : (m n : ℤ) → unsigned_abs m < 2 ^ 63 → unsigned_abs n < 2 ^ 63 → unsigned_abs (to_z w128 (of_z w128 (m *ℤ n))) ≤ limit
product_bound m n h k =
    subst
    (λ (z : ℤ). unsigned_abs z ≤ limit)
    (sym (to_z-of_z w128 (m *ℤ n) (product_fits m n h k)))
    (let below = product_below m n h k in omega arith)

-- a fraction over 1 is its numerator
pub whole_from_denom : (a : Rational) (d : ℕ) (m : ℤ) → m ≡ a.numer → d ≡ a.denom → d ≡ 1 → a ≡ whole m
unfolding is_whole
whole_from_denom a d m numer denom one =
    is_whole_whole a (eq-eqb a.denom 1 (sym denom ∙ one)) ∙ ap whole (sym numer)

pub product_is : (a b : Rational) (m n : ℤ) (c d : ℕ) → m ≡ a.numer → c ≡ a.denom → c ≡ 1 → n ≡ b.numer → d ≡ b.denom → d ≡ 1 → unsigned_abs m < 2 ^ 63 → unsigned_abs n < 2 ^ 63 → whole (to_z w128 (of_z w128 (m *ℤ n))) ≡ times a b
product_is a b m n c d numer denom one other_numer other_denom other_one h k =
    ap whole (to_z-of_z w128 (m *ℤ n) (product_fits m n h k)) ∙ sym (ap₂ times (whole_from_denom a c m numer denom one) (whole_from_denom b d n other_numer other_denom other_one) ∙ whole_times m n)

pub sum_fits : (m n : ℤ) → unsigned_abs m < 2 ^ 63 → unsigned_abs n < 2 ^ 63 → SFits w128 (m +ℤ n)
sum_fits m n h k = omega (arith, ints)

pub sum_is : (a b : Rational) (m n : ℤ) (c d : ℕ) → m ≡ a.numer → c ≡ a.denom → c ≡ 1 → n ≡ b.numer → d ≡ b.denom → d ≡ 1 → unsigned_abs m < 2 ^ 63 → unsigned_abs n < 2 ^ 63 → whole (to_z w128 (of_z w128 (m +ℤ n))) ≡ plus a b
sum_is a b m n c d numer denom one other_numer other_denom other_one h k =
    ap whole (to_z-of_z w128 (m +ℤ n) (sum_fits m n h k)) ∙ sym (ap₂ plus (whole_from_denom a c m numer denom one) (whole_from_denom b d n other_numer other_denom other_one) ∙ whole_plus m n)
