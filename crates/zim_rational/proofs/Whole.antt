-- Whole numbers among the fractions: sums, products and order are those of the whole numbers; and what `same`,
-- `is_whole`, `ratio` and division say.
use Rattle.std.proofs.Common.{ℕ, ℤ, pos, negsuc, neg_ℤ, zero as none, suc, ◌≡◌, ◌≢◌, ◌+◌, ◌*◌, ◌<◌, ◌+ℤ◌, ◌*ℤ◌, ◌≤ℤ◌, ◌<ℤ◌, ◌↔◌, IsTrue, Decides, unsigned_abs, arith, refl, sym, ap, subst, ◌∙◌, nat_eq, min}
use Rattle.std.proofs.lemmas.Bool.{and_parts, and_from, eqb-true, eq-eqb}
use Rattle.std.proofs.lemmas.Bool.Decides.{Decides-int_eq}
use Rattle.std.specs.Ordering.{int_eq}
use native.Mathlib.Nat.{min-eq_right, pos_of_ne-zero}
use Rattle.std.proofs.lemmas.Int.{ints}
use Rattle.std.specs.Int.{int_signum}
use borrow.Author.Differences.{up, down, sum_is_lem, product_is, neg_is, abs_is}
use Rattle.zim_rational.specs.Rational.{Rational, zero, one, whole, ratio, plus, negate, times, reciprocal, over, IsAtMost, IsBelow, same, is_whole, same_from_parts}
use Rattle.zim_rational.proofs.Fraction.{IsFraction, one_fraction, ratio-is, whole-is, plus-is, times-is, negate-is, at_most-is, below-is, own-parts, one-is, zero-is}
use Rattle.zim_rational.proofs.Ring.{times_comm, times_assoc, times_one, times_zero}

pub whole_plus : (m n : ℤ) → plus (whole m) (whole n) ≡ whole (m +ℤ n)
whole_plus m n =
    one_fraction _ _ _ _ _ _ _ _ (plus-is _ _ _ _ _ _ _ (whole-is m) (whole-is n)) (whole-is (m +ℤ n)) (omega (arith, sum_is_lem m n))

pub whole_times : (m n : ℤ) → times (whole m) (whole n) ≡ whole (m *ℤ n)
whole_times m n =
    one_fraction _ _ _ _ _ _ _ _ (times-is _ _ _ _ _ _ _ _ (whole-is m) (whole-is n)) (whole-is (m *ℤ n)) (omega (arith, product_is m n))

pub whole_negate : (n : ℤ) → negate (whole n) ≡ whole (neg_ℤ n)
whole_negate n =
    one_fraction _ _ _ _ _ _ _ _ (negate-is _ _ _ _ (whole-is n)) (whole-is (neg_ℤ n)) (omega (arith, neg_is n))

pub whole_at_most : (m n : ℤ) → IsAtMost (whole m) (whole n) ↔ (m ≤ℤ n)
whole_at_most m n =
    let order = at_most-is _ _ _ _ _ _ _ (whole-is m) (whole-is n) in
    (λ (h : IsAtMost (whole m) (whole n)). let le = order.0 h in omega (arith, ints), λ (h : m ≤ℤ n). order.1 (omega (arith, ints)))

pub whole_below : (m n : ℤ) → IsBelow (whole m) (whole n) ↔ (m <ℤ n)
whole_below m n =
    let order = below-is _ _ _ _ _ _ _ (whole-is m) (whole-is n) in
    (λ (h : IsBelow (whole m) (whole n)). let le = order.0 h in omega (arith, ints), λ (h : m <ℤ n). order.1 (omega (arith, ints)))

pub whole_same : (m n : ℤ) → whole m ≡ whole n → m ≡ n
unfolding whole
whole_same m n e = ap (λ a. a.numer) e

-- the one number of which `same` is true is the number itself
pub same_Decides : (a b : Rational) → Decides (same a b) (a ≡ b)
unfolding same
same_Decides a b = (
  λ t.
      let parts = and_parts (int_eq a.numer b.numer) (nat_eq a.denom b.denom) t in
      same_from_parts a b ((Decides-int_eq a.numer b.numer).0 parts.0) (eqb-true a.denom b.denom parts.1),
  λ e.
      and_from
      (int_eq a.numer b.numer)
      (nat_eq a.denom b.denom)
      ((Decides-int_eq a.numer b.numer).1 (ap (λ c. c.numer) e))
      (eq-eqb a.denom b.denom (ap (λ c. c.denom) e)),
)

-- a whole number is its numerator
pub is_whole_whole : (a : Rational) → IsTrue (is_whole a) → a ≡ whole a.numer
unfolding is_whole whole
is_whole_whole a h = same_from_parts a (whole a.numer) refl (eqb-true a.denom 1 h)

pub whole_is_whole : (n : ℤ) → IsTrue (is_whole (whole n))
unfolding is_whole whole
whole_is_whole n = refl

-- a ratio times its denominator is its numerator
pub ratio_times : (n : ℤ) (d : ℕ) → 0 < d → times (ratio n d) (whole (pos d)) ≡ whole n
ratio_times n d some =
    one_fraction _ _ _ _ _ _ _ _ (times-is _ _ _ _ _ _ _ _ (ratio-is n d some) (whole-is (pos d))) (whole-is n) (omega arith)

-- two ratios are one number where the products across are equal
pub same_ratios : (n m : ℤ) (d e : ℕ) → 0 < d → 0 < e → n *ℤ pos e ≡ m *ℤ pos d → ratio n d ≡ ratio m e
same_ratios n m d e some more h =
    one_fraction _ _ _ _ _ _ _ _ (ratio-is n d some) (ratio-is m e more) (omega (arith, ap up h, ap down h, product_is n (pos e), product_is m (pos d)))

-- ---- division

reciprocal_lem : (n : ℤ) (d : ℕ) → let r : ℤ = int_signum n *ℤ pos d in (up n * up r + down n * down r) * 1 + 0 * (d * unsigned_abs n) ≡ 1 * (d * unsigned_abs n) + (up n * down r + down n * up r) * 1
reciprocal_lem (pos none) d = omega arith
reciprocal_lem (pos (suc a)) d =
    let e : min (suc a) 1 ≡ 1 = min-eq_right (omega arith) in rw e (omega arith)
reciprocal_lem (negsuc a) d = let e = neg_is (pos (1 * d)) in rw (e.0, e.1) (omega arith)

-- a fraction that is not 0 has a numerator that is not 0
pub abs-pos : (a : Rational) → a ≢ zero → 0 < unsigned_abs a.numer
abs-pos a some =
    pos_of_ne-zero
    (λ e.
    some
    (one_fraction a zero (up a.numer) (down a.numer) a.denom 0 0 1 (own-parts a) zero-is (omega (arith, abs_is a.numer))))

pub times_reciprocal : (a : Rational) → a ≢ zero → times a (reciprocal a) ≡ one
unfolding reciprocal
times_reciprocal a some =
    let n : ℤ = a.numer in
    let r : ℤ = int_signum n *ℤ pos a.denom in
    one_fraction
    (times a (reciprocal a))
    one
    (up n * up r + down n * down r)
    (up n * down r + down n * up r)
    (a.denom * unsigned_abs n)
    1
    0
    1
    (times-is _ _ _ _ _ _ _ _ (own-parts a) (ratio-is r (unsigned_abs n) (abs-pos a some)))
    one-is
    (reciprocal_lem n a.denom)

-- a quotient times the divisor is the dividend
pub over_times : (a b : Rational) → b ≢ zero → times (over a b) b ≡ a
unfolding over
over_times a b some =
    times_assoc a (reciprocal b) b ∙ ap (times a) (times_comm (reciprocal b) b ∙ times_reciprocal b some) ∙ times_one a

pub times_over : (a b : Rational) → b ≢ zero → over (times a b) b ≡ a
unfolding over
times_over a b some = times_assoc a b (reciprocal b) ∙ ap (times a) (times_reciprocal b some) ∙ times_one a

-- no other number is the quotient
pub over_unique : (a b c : Rational) → b ≢ zero → times c b ≡ a → c ≡ over a b
over_unique a b c some e = sym (times_over c b some) ∙ ap (λ n. over n b) e

pub times_cancel : (a b c : Rational) → c ≢ zero → times a c ≡ times b c → a ≡ b
times_cancel a b c some e = over_unique (times b c) c a some e ∙ times_over b c some

pub over_zero : (a : Rational) → over a zero ≡ zero
unfolding over reciprocal ratio zero whole
over_zero a = times_zero a

-- a fraction with numerator 0 is 0
pub zero_from_numer : (a : Rational) → a.numer ≡ pos 0 → a ≡ zero
zero_from_numer a e =
    let f = subst (λ (n : ℤ). IsFraction a (up n) (down n) a.denom) e (own-parts a) in
    one_fraction a zero 0 0 a.denom 0 0 1 f zero-is (omega arith)

pub one_different : one ≢ zero
unfolding one zero
one_different e = let f = whole_same (pos 1) (pos 0) e in cc

-- no other number times a is 1
pub reciprocal_unique : (a b : Rational) → a ≢ zero → times b a ≡ one → b ≡ reciprocal a
unfolding over
reciprocal_unique a b some e = over_unique one a b some e ∙ times_comm one (reciprocal a) ∙ times_one (reciprocal a)
