-- Fractions are totally ordered, and sum, negation and product by a number from 0 up keep or turn the order.
use Rattle.std.proofs.Common.{ℕ, ◌≡◌, ◌+◌, ◌*◌, ◌-◌, ◌<◌, ◌≤◌, ◌⊎◌, ◌≢◌, lit<, inl, inr, IsFalse, arith, subst, mul-le-mul_left}
use native.Mathlib.Nat.{le_of_mul-le-mul_left}
use Rattle.std.proofs.lemmas.Bool.{cases_Bool, both_ways, cond_both}
use Rattle.zim_rational.specs.Rounding.{larger, smaller}
use Rattle.zim_rational.specs.Rational.{Rational, zero, one, plus, minus, negate, times, at_most, IsAtMost, IsBelow}
use Rattle.zim_rational.proofs.Fraction.{fractions, products, zero_fraction, one_fraction_of, common1, common2, common3, common4}

pub at_most_refl : (a : Rational) → IsAtMost a a
at_most_refl = common1 (λ a. IsAtMost a a) (λ x y d some. simp fractions (omega arith))

pub at_most_trans : (a b c : Rational) → IsAtMost a b → IsAtMost b c → IsAtMost a c
at_most_trans =
    common3
    (λ a b c. IsAtMost a b → IsAtMost b c → IsAtMost a c)
    (λ x y u v s t d some. simp fractions (λ h k. omega arith))

pub at_most_antisymm : (a b : Rational) → IsAtMost a b → IsAtMost b a → a ≡ b
at_most_antisymm =
    common2 (λ a b. IsAtMost a b → IsAtMost b a → a ≡ b) (λ x y u v d some. simp fractions (λ h k. omega arith))

turned : (a b : Rational) → (IsAtMost a b → ⊥) → IsAtMost b a
turned =
    common2 (λ a b. (IsAtMost a b → ⊥) → IsAtMost b a) (λ x y u v d some. simp fractions (λ h. omega arith))

pub at_most_turned : (a b : Rational) → IsFalse (at_most a b) → IsAtMost b a
at_most_turned a b e = turned a b (λ t. both_ways (at_most a b) e t)

-- of two numbers one is at most the other
pub at_most_total : (a b : Rational) → IsAtMost a b ⊎ IsAtMost b a
at_most_total a b =
    elim (cases_Bool (at_most a b)) [ inl t ↦ inl t | inr f ↦ inr (at_most_turned a b f) ]

pub plus_at_most : (a b c d : Rational) → IsAtMost a b → IsAtMost c d → IsAtMost (plus a c) (plus b d)
plus_at_most =
    common4
    (λ a b c d. IsAtMost a b → IsAtMost c d → IsAtMost (plus a c) (plus b d))
    (λ x y u v s t e f d some. simp fractions (λ h k. omega arith))

pub negate_at_most : (a b : Rational) → IsAtMost a b → IsAtMost (negate b) (negate a)
negate_at_most =
    common2 (λ a b. IsAtMost a b → IsAtMost (negate b) (negate a)) (λ x y u v d some. simp fractions (λ h. omega arith))

-- a is at most b exactly where b - a is from 0 up
pub at_most_minus : (a b : Rational) → IsAtMost zero (minus b a) → IsAtMost a b
at_most_minus =
    common2
    (λ a b. IsAtMost zero (minus b a) → IsAtMost a b)
    (λ x y u v d some. simp (zero_fraction d some, fractions) (λ h. omega arith))

pub minus_at_most : (a b : Rational) → IsAtMost a b → IsAtMost zero (minus b a)
minus_at_most =
    common2
    (λ a b. IsAtMost a b → IsAtMost zero (minus b a))
    (λ x y u v d some. simp (zero_fraction d some, fractions) (λ h. omega arith))

weighted : (t k m n : ℕ) → m ≤ n → (t + k) * m + t * n ≤ (t + k) * n + t * m
weighted t k m n h = let more = mul-le-mul_left k h in omega arith

weighted_lem : (s t m n : ℕ) → t ≤ s → m ≤ n → s * m + t * n ≤ s * n + t * m
weighted_lem s t m n some h =
    subst
    (λ (r : ℕ). r * m + t * n ≤ r * n + t * m)
    (let e : t + (s - t) ≡ s = omega arith in e)
    (weighted t (s - t) m n h)

pub times_at_most : (k a b : Rational) → IsAtMost zero k → IsAtMost a b → IsAtMost (times k a) (times k b)
times_at_most =
    common3
    (λ k a b. IsAtMost zero k → IsAtMost a b → IsAtMost (times k a) (times k b))
    (λ s t x y u v d some.
    simp
    (zero_fraction d some, products)
    (λ h k. let more = weighted_lem s t (x + v) (u + y) (omega arith) k in omega arith))

pub below_at_most : (a b : Rational) → IsBelow a b → IsAtMost a b
below_at_most = common2 (λ a b. IsBelow a b → IsAtMost a b) (λ x y u v d some. simp fractions (λ h. omega arith))

pub at_most_below : (a b c : Rational) → IsAtMost a b → IsBelow b c → IsBelow a c
at_most_below =
    common3
    (λ a b c. IsAtMost a b → IsBelow b c → IsBelow a c)
    (λ x y u v s t d some. simp fractions (λ h k. omega arith))

pub below_different : (a b : Rational) → IsBelow a b → a ≢ b
below_different = common2 (λ a b. IsBelow a b → a ≢ b) (λ x y u v d some. simp fractions (λ h e. omega arith))

pub different_below : (a b : Rational) → IsAtMost a b → a ≢ b → IsBelow a b
different_below = common2 (λ a b. IsAtMost a b → a ≢ b → IsBelow a b) (λ x y u v d some. simp fractions (λ h e. omega arith))

pub at_most_zero-one : IsAtMost zero one
at_most_zero-one = let unit : 0 < 1 = lit< tt in simp (zero_fraction 1 unit, one_fraction_of 1 unit, fractions) (omega arith)

weighted_back : (t k m n : ℕ) → 0 < k → (t + k) * m + t * n ≤ (t + k) * n + t * m → m ≤ n
weighted_back t k m n some h = le_of_mul-le-mul_left {k = k} (omega arith) some

weighted_back_lem : (s t m n : ℕ) → t < s → s * m + t * n ≤ s * n + t * m → m ≤ n
weighted_back_lem s t m n some h =
    let e : s ≡ t + (s - t) = omega arith in
    weighted_back t (s - t) m n (omega arith) (subst (λ (r : ℕ). r * m + t * n ≤ r * n + t * m) e h)

-- a factor above 0 can be taken off both sides
pub at_most_times : (k a b : Rational) → IsBelow zero k → IsAtMost (times k a) (times k b) → IsAtMost a b
at_most_times =
    common3
    (λ k a b. IsBelow zero k → IsAtMost (times k a) (times k b) → IsAtMost a b)
    (λ s t x y u v d some.
    simp
    (zero_fraction d some, products)
    (λ h k. weighted_back_lem s t (x + v) (u + y) (omega arith) (omega arith)))

-- a factor at most 0 turns the order
pub times_turns : (k a b : Rational) → IsAtMost k zero → IsAtMost a b → IsAtMost (times k b) (times k a)
times_turns =
    common3
    (λ k a b. IsAtMost k zero → IsAtMost a b → IsAtMost (times k b) (times k a))
    (λ s t x y u v d some.
    simp
    (zero_fraction d some, products)
    (λ h k. let more = weighted_lem t s (x + v) (u + y) (omega arith) k in omega arith))

-- ---- the larger and the smaller of two numbers

pub larger_left : (a b : Rational) → IsAtMost a (larger a b)
unfolding larger
larger_left a b =
    cond_both (at_most a b) b a (λ q. IsAtMost a q) (λ t. t) (λ _. at_most_refl a)

pub larger_right : (a b : Rational) → IsAtMost b (larger a b)
unfolding larger
larger_right a b =
    cond_both (at_most a b) b a (λ q. IsAtMost b q) (λ _. at_most_refl b) (λ f. at_most_turned a b f)

pub larger_least : (a b c : Rational) → IsAtMost a c → IsAtMost b c → IsAtMost (larger a b) c
unfolding larger
larger_least a b c h k = cond_both (at_most a b) b a (λ q. IsAtMost q c) (λ _. k) (λ _. h)

pub smaller_left : (a b : Rational) → IsAtMost (smaller a b) a
unfolding smaller
smaller_left a b =
    cond_both (at_most a b) a b (λ q. IsAtMost q a) (λ _. at_most_refl a) (λ f. at_most_turned a b f)

pub smaller_right : (a b : Rational) → IsAtMost (smaller a b) b
unfolding smaller
smaller_right a b =
    cond_both (at_most a b) a b (λ q. IsAtMost q b) (λ t. t) (λ _. at_most_refl b)

pub smaller_greatest : (a b c : Rational) → IsAtMost c a → IsAtMost c b → IsAtMost c (smaller a b)
unfolding smaller
smaller_greatest a b c h k = cond_both (at_most a b) a b (λ q. IsAtMost c q) (λ _. h) (λ _. k)
