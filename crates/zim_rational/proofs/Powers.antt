-- A product of equal factors is the power of the numerator, with its sign, over the power of the denominator.
use Rattle.std.proofs.Common.{ℕ, ℤ, pos, negsuc, neg_ℤ, zero as none, suc, ◌≡◌, ◌≢◌, ◌+◌, ◌*◌, ◌%◌, ◌^◌, ◌&&◌, ◌==◌, inl, inr, Bool, true, false, not, cond, unsigned_abs, arith, refl, sym, ap, ◌∙◌, pow-suc, mul_comm, eq-eqb, ne_eqb, le-ltb}
use Rattle.std.specs.Prelude.{int_lt}
use native.Mathlib.Nat.{pow-zero, one-le-pow}
use Rattle.std.proofs.lemmas.Bool.{cases_eq}
use Rattle.zim_rational.specs.Rational.{abs_neg}
use borrow.Author.Differences.{up, down, neg_is}
use Rattle.zim_rational.specs.Gcd.{gcd}
use Rattle.zim_rational.specs.Rational.{Rational, zero, one, times, reciprocal}
use Rattle.zim_rational.specs.Rounding.{product_of}
use Rattle.zim_rational.proofs.Fraction.{IsFraction, times-is, own-parts, one-is, denom-pos, denom_lowest, common4, products}
use Rattle.zim_rational.proofs.Ring.{times_comm, times_one, times_zero}
use Rattle.zim_rational.proofs.Whole.{times_reciprocal, reciprocal_unique, one_different}
use Rattle.zim_rational.proofs.Lowest.{own_lowest, gcd_powers}

-- n^k by its sign and its size
abbrev pub signed_power : ℤ → ℕ → ℤ
signed_power n k =
    cond (int_lt n (pos 0) && (k % 2 == 1)) (neg_ℤ (pos (unsigned_abs n ^ k))) (pos (unsigned_abs n ^ k))

-- z is s - t, one of which is 0
record IsSplit (z : ℤ) (s t : ℕ) : Type 0 where
  over : up z ≡ s
  under : down z ≡ t

even_split : (m p q : ℕ) → q ≡ m * p → IsSplit (neg_ℤ (pos q)) (0 * p + m * 0) (0 * 0 + m * p)
even_split m p q e = let n = neg_is (pos q) in record { over = omega arith; under = omega arith }

odd_split : (m p q : ℕ) → q ≡ m * p → let z : ℤ = neg_ℤ (pos p) in IsSplit (pos q) (0 * up z + m * down z) (0 * down z + m * up z)
odd_split m p q e = let n = neg_is (pos p) in rw (n.0, n.1) (record { over = omega arith; under = omega arith })

negative_split : (m p q : ℕ) (odd next : Bool) → next ≡ not odd → q ≡ m * p → let z : ℤ = cond odd (neg_ℤ (pos p)) (pos p) in IsSplit (cond next (neg_ℤ (pos q)) (pos q)) (0 * up z + m * down z) (0 * down z + m * up z)
negative_split m p q false next e f = rw e (even_split m p q f)
negative_split m p q true next e f = rw e (odd_split m p q f)

parity : (k : ℕ) → (suc k % 2 == 1) ≡ not (k % 2 == 1)
parity k =
    elim (cases_eq (k % 2) 1) [
      | inl one ↦ ap (λ n. n == 1) (let e : suc k % 2 ≡ 0 = omega arith in e) ∙ ap not (sym (eq-eqb (k % 2) 1 one))
      | inr other ↦ ap (λ n. n == 1) (let e : suc k % 2 ≡ 1 = omega arith in e) ∙ ap not (sym (ne_eqb (k % 2) 1 other))
    ]

next_power : (m k : ℕ) → m ^ suc k ≡ m * m ^ k
next_power m k = pow-suc m k ∙ mul_comm (m ^ k) m

split_power : (n : ℤ) (k : ℕ) → IsSplit (signed_power n (suc k)) (up n * up (signed_power n k) + down n * down (signed_power n k)) (up n * down (signed_power n k) + down n * up (signed_power n k))
split_power (pos m) k =
    let e : int_lt (pos m) (pos 0) ≡ false = le-ltb m 0 (omega arith) in
    let f = next_power m k in rw e (record { over = omega arith; under = omega arith })
split_power (negsuc m) k =
    negative_split
    (suc m)
    (suc m ^ k)
    (suc m ^ suc k)
    (k % 2 == 1)
    (suc k % 2 == 1)
    (parity k)
    (next_power (suc m) k)

abs_signed : (b : Bool) (n : ℕ) → unsigned_abs (cond b (neg_ℤ (pos n)) (pos n)) ≡ n
abs_signed true n = abs_neg n
abs_signed false n = refl

pub signed_power-abs : (n : ℤ) (k : ℕ) → unsigned_abs (signed_power n k) ≡ unsigned_abs n ^ k
signed_power-abs n k = abs_signed (int_lt n (pos 0) && (k % 2 == 1)) (unsigned_abs n ^ k)

no_power : (n : ℤ) → signed_power n 0 ≡ pos 1
no_power (pos m) =
    let e : int_lt (pos m) (pos 0) ≡ false = le-ltb m 0 (omega arith) in rw e (ap pos (pow-zero m))
no_power (negsuc m) = ap pos (pow-zero (suc m))

product_of-is : (a : Rational) (k : ℕ) → IsFraction (product_of a k) (up (signed_power a.numer k)) (down (signed_power a.numer k)) (a.denom ^ k)
unfolding product_of
product_of-is a none = rw (no_power a.numer, pow-zero a.denom) one-is
product_of-is a (suc k) =
    let f = times-is a (product_of a k) _ _ _ _ _ _ (own-parts a) (product_of-is a k) in
    let s = split_power a.numer k in
    rw (s.over, s.under, next_power a.denom k) f

pub product_of-parts : (a : Rational) (k : ℕ) → ((product_of a k).numer ≡ signed_power a.numer k) × ((product_of a k).denom ≡ a.denom ^ k)
product_of-parts a k =
    own_lowest
    (product_of a k)
    (signed_power a.numer k)
    (a.denom ^ k)
    _
    _
    _
    (product_of-is a k)
    (one-le-pow k a.denom (denom-pos a))
    (ap (λ n. gcd n (a.denom ^ k)) (signed_power-abs a.numer k) ∙ gcd_powers (unsigned_abs a.numer) a.denom k (denom_lowest a))
    (omega arith)

-- ---- laws of products of equal factors

exchanged : (a b c d : Rational) → times (times a b) (times c d) ≡ times (times a c) (times b d)
exchanged =
    common4
    (λ a b c d. times (times a b) (times c d) ≡ times (times a c) (times b d))
    (λ x y u v s t e f d some. simp products (omega arith))

pub product_of-times : (a b : Rational) (k : ℕ) → product_of (times a b) k ≡ times (product_of a k) (product_of b k)
unfolding product_of
product_of-times a b none = sym (times_one one)
product_of-times a b (suc k) =
    ap (times (times a b)) (product_of-times a b k) ∙ exchanged a b (product_of a k) (product_of b k)

pub product_of-one : (k : ℕ) → product_of one k ≡ one
unfolding product_of
product_of-one none = refl
product_of-one (suc k) = ap (times one) (product_of-one k) ∙ times_one one

pub reciprocal_product_of : (a : Rational) (k : ℕ) → a ≢ zero → product_of (reciprocal a) k ≡ reciprocal (product_of a k)
reciprocal_product_of a k some =
    let unit : times (product_of (reciprocal a) k) (product_of a k) ≡ one =
    sym (product_of-times (reciprocal a) a k) ∙ ap (λ b. product_of b k) (times_comm (reciprocal a) a ∙ times_reciprocal a some) ∙ product_of-one k in
    reciprocal_unique
    (product_of a k)
    (product_of (reciprocal a) k)
    (λ e. one_different (sym unit ∙ ap (times (product_of (reciprocal a) k)) e ∙ times_zero (product_of (reciprocal a) k)))
    unit
