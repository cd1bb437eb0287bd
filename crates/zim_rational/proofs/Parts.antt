-- The numerator and the denominator of ratios, products, negations, reciprocals and quotients, by signs and sizes.
use Rattle.std.proofs.Common.{ℕ, ℤ, pos, negsuc, neg_ℤ, zero as none, suc, ◌≡◌, ◌≢◌, ◌+◌, ◌*◌, ◌/◌, ◌<◌, ◌*ℤ◌, Bool, true, false, not, IsTrue, unsigned_abs, arith, refl, sym, ap, ap₂, subst, subst₂, ◌∙◌, mul-pos, le-ltb, one-mul, mul-one, min}
use Rattle.std.specs.Prelude.{int_lt}
use mathlib.Core.Bool.{beq}
use Rattle.std.specs.Int.{int_signum}
use borrow.Author.Differences.{up, down, neg_is, product_is, same_in}
use native.Mathlib.Nat.{mul-div_cancel', dvd-mul_left, min-eq_right}
use Rattle.zim_rational.proofs.Whole.{abs-pos}
use Rattle.std.specs.Int.{◌∣◌}
use Rattle.zim_rational.specs.Gcd.{gcd, gcd-one, gcd-is, gcd-pos, gcd_lowest, div_gcd-pos}
use Rattle.zim_rational.specs.Rational.{Rational, abs_neg, signed, is_lowest, ratio, ratio_parts, ratio_of_lowest, zero, whole, times, negate, reciprocal, over}
use Rattle.zim_rational.proofs.Fraction.{ratio-is, denom-pos, denom_lowest}
use Rattle.zim_rational.proofs.Lowest.{own_lowest, is_lowest_from, gcd_comm, gcd_divisors, gcd_products}

-- q is n/d, and this is in lowest terms
pub record HasParts (q : Rational) (n : ℤ) (d : ℕ) : Type 0 where
  pub numer : q.numer ≡ n
  pub denom : q.denom ≡ d

pub signed-abs : (b : Bool) (n : ℕ) → unsigned_abs (signed b n) ≡ n
signed-abs true n = abs_neg n
signed-abs false n = refl

pub signed_self : (n : ℤ) → signed (int_lt n (pos 0)) (unsigned_abs n) ≡ n
signed_self (pos m) =
    let e : int_lt (pos m) (pos 0) ≡ false = le-ltb m 0 (omega arith) in ap (λ b. signed b m) e
signed_self (negsuc m) = refl

pub signed_times : (s t : Bool) (p r : ℕ) → signed s p *ℤ signed t r ≡ signed (not (beq s t)) (p * r)
signed_times false false p r = refl
signed_times false true p r =
    let e = product_is (pos p) (neg_ℤ (pos r)) in
    let f = neg_is (pos r) in
    let g = neg_is (pos (p * r)) in same_in _ _ (rw (e.0, e.1, f.0, f.1, g.0, g.1) (omega arith))
signed_times true false p r =
    let e = product_is (neg_ℤ (pos p)) (pos r) in
    let f = neg_is (pos p) in
    let g = neg_is (pos (p * r)) in same_in _ _ (rw (e.0, e.1, f.0, f.1, g.0, g.1) (omega arith))
signed_times true true p r =
    let e = product_is (neg_ℤ (pos p)) (neg_ℤ (pos r)) in
    let f = neg_is (pos p) in
    let g = neg_is (pos r) in same_in _ _ (rw (e.0, e.1, f.0, f.1, g.0, g.1) (omega arith))

scaled_lem : (s : Bool) (k m n : ℕ) → up (signed s m) * (k * n) + down (signed s (k * m)) * n ≡ up (signed s (k * m)) * n + down (signed s m) * (k * n)
scaled_lem false k m n = omega arith
scaled_lem true k m n = let e = neg_is (pos m) in let f = neg_is (pos (k * m)) in rw (e.0, e.1, f.0, f.1) (omega arith)

-- a ratio of which k can be taken out so that only 1 divides both
pub ratio_scaled : (s : Bool) (k m n x d : ℕ) → k * m ≡ x → k * n ≡ d → 0 < k → 0 < n → gcd m n ≡ 1 → HasParts (ratio (signed s x) d) (signed s m) n
ratio_scaled s k m n x d e f some more lowest =
    let parts =
    own_lowest
    (ratio (signed s (k * m)) (k * n))
    (signed s m)
    n
    (up (signed s (k * m)))
    (down (signed s (k * m)))
    (k * n)
    (ratio-is (signed s (k * m)) (k * n) (mul-pos some more))
    more
    (ap (λ a. gcd a n) (signed-abs s m) ∙ lowest)
    (scaled_lem s k m n) in
    subst₂
    (λ (y c : ℕ). HasParts (ratio (signed s y) c) (signed s m) n)
    e
    f
    (record { numer = parts.0; denom = parts.1 })

-- the ratio of a whole number and a positive one
pub ratio-parts : (n : ℤ) (d : ℕ) → 0 < d → let g : ℕ = gcd (unsigned_abs n) d in HasParts (ratio n d) (signed (int_lt n (pos 0)) (unsigned_abs n / g)) (d / g)
ratio-parts n d some =
    let g : ℕ = gcd (unsigned_abs n) d in
    let both = gcd-is (unsigned_abs n) d in
    let sign : Bool = int_lt n (pos 0) in
    subst
    (λ (z : ℤ). HasParts (ratio z d) (signed sign (unsigned_abs n / g)) (d / g))
    (signed_self n)
    (ratio_scaled
    sign
    g
    (unsigned_abs n / g)
    (d / g)
    (unsigned_abs n)
    d
    (mul-div_cancel' g both.0)
    (mul-div_cancel' g both.1)
    (gcd-pos (unsigned_abs n) d some)
    (div_gcd-pos (unsigned_abs n) d some)
    (gcd_lowest (unsigned_abs n) d some))

crossed : (g h p r : ℕ) → g * h * (p * r) ≡ g * p * (h * r)
crossed g h p r = omega arith

crossed_back : (g h c d : ℕ) → g * h * (c * d) ≡ h * c * (g * d)
crossed_back g h c d = omega arith

-- what is left of the two numerators and denominators by the greatest divisors across
times_lem : (s t : Bool) (p r c d : ℕ) → 0 < c → 0 < d → gcd p c ≡ 1 → gcd r d ≡ 1 → let g : ℕ = gcd p d in let h : ℕ = gcd r c in HasParts (ratio (signed (not (beq s t)) (p * r)) (c * d)) (signed (not (beq s t)) (p / g * (r / h))) (c / h * (d / g))
times_lem s t p r c d some more lowest least =
    let g : ℕ = gcd p d in
    let h : ℕ = gcd r c in
    let gs = gcd-is p d in
    let hs = gcd-is r c in
    let p' : g * (p / g) ≡ p = mul-div_cancel' g gs.0 in
    let d' : g * (d / g) ≡ d = mul-div_cancel' g gs.1 in
    let r' : h * (r / h) ≡ r = mul-div_cancel' h hs.0 in
    let c' : h * (c / h) ≡ c = mul-div_cancel' h hs.1 in
    let of_p : p / g ∣ p = subst (λ (n : ℕ). p / g ∣ n) p' (dvd-mul_left (p / g) g) in
    let of_d : d / g ∣ d = subst (λ (n : ℕ). d / g ∣ n) d' (dvd-mul_left (d / g) g) in
    let of_r : r / h ∣ r = subst (λ (n : ℕ). r / h ∣ n) r' (dvd-mul_left (r / h) h) in
    let of_c : c / h ∣ c = subst (λ (n : ℕ). c / h ∣ n) c' (dvd-mul_left (c / h) h) in
    ratio_scaled
    (not (beq s t))
    (g * h)
    (p / g * (r / h))
    (c / h * (d / g))
    (p * r)
    (c * d)
    (crossed g h (p / g) (r / h) ∙ ap₂ (λ m n. m * n) p' r')
    (crossed_back g h (c / h) (d / g) ∙ ap₂ (λ m n. m * n) c' d')
    (mul-pos (gcd-pos p d more) (gcd-pos r c some))
    (mul-pos (div_gcd-pos r c some) (div_gcd-pos p d more))
    (gcd_products
    (p / g)
    (r / h)
    (c / h)
    (d / g)
    (gcd_divisors p c (p / g) (c / h) lowest of_p of_c)
    (gcd_lowest p d more)
    (gcd_lowest r c some)
    (gcd_divisors r d (r / h) (d / g) least of_r of_d))

-- the product of two fractions
pub times-parts : (a b : Rational) → let p : ℕ = unsigned_abs a.numer in let r : ℕ = unsigned_abs b.numer in let g : ℕ = gcd p b.denom in let h : ℕ = gcd r a.denom in HasParts (times a b) (signed (not (beq (int_lt a.numer (pos 0)) (int_lt b.numer (pos 0)))) (p / g * (r / h))) (a.denom / h * (b.denom / g))
unfolding times
times-parts a b =
    let s : Bool = int_lt a.numer (pos 0) in
    let t : Bool = int_lt b.numer (pos 0) in
    let p : ℕ = unsigned_abs a.numer in
    let r : ℕ = unsigned_abs b.numer in
    let g : ℕ = gcd p b.denom in
    let h : ℕ = gcd r a.denom in
    subst
    (λ (z : ℤ). HasParts (ratio z (a.denom * b.denom)) (signed (not (beq s t)) (p / g * (r / h))) (a.denom / h * (b.denom / g)))
    (sym (signed_times s t p r) ∙ ap₂ (λ m n. m *ℤ n) (signed_self a.numer) (signed_self b.numer))
    (times_lem s t p r a.denom b.denom (denom-pos a) (denom-pos b) (denom_lowest a) (denom_lowest b))

-- a pair in lowest terms is its ratio's own
pub lowest-parts : (n : ℤ) (d : ℕ) → 0 < d → gcd (unsigned_abs n) d ≡ 1 → HasParts (ratio n d) n d
lowest-parts n d some lowest =
    let own = ratio_of_lowest n d (is_lowest_from n d some lowest) in
    record { numer = ap (λ r. r.numer) own; denom = ap (λ r. r.denom) own }

pub abs_negated : (n : ℤ) → unsigned_abs (neg_ℤ n) ≡ unsigned_abs n
abs_negated (pos none) = refl
abs_negated (pos (suc m)) = refl
abs_negated (negsuc m) = refl

-- a fraction with the other sign
pub negate-parts : (a : Rational) → HasParts (negate a) (neg_ℤ a.numer) a.denom
unfolding negate
negate-parts a =
    lowest-parts
    (neg_ℤ a.numer)
    a.denom
    (denom-pos a)
    (ap (λ n. gcd n a.denom) (abs_negated a.numer) ∙ denom_lowest a)

signum_times : (n : ℤ) (d : ℕ) → 0 < unsigned_abs n → int_signum n *ℤ pos d ≡ signed (int_lt n (pos 0)) d
signum_times (pos none) d some = absurd (omega arith)
signum_times (pos (suc m)) d some =
    let e : int_lt (pos (suc m)) (pos 0) ≡ false = le-ltb (suc m) 0 (omega arith) in
    let one : min (suc m) 1 ≡ 1 = min-eq_right (omega arith) in
    rw (e, one) (ap pos (one-mul d))
signum_times (negsuc m) d some = ap (λ n. neg_ℤ (pos n)) (one-mul d)

pub reciprocal-parts : (a : Rational) → a ≢ zero → HasParts (reciprocal a) (signed (int_lt a.numer (pos 0)) a.denom) (unsigned_abs a.numer)
unfolding reciprocal
reciprocal-parts a some =
    let size : ℕ = unsigned_abs a.numer in
    let sign : Bool = int_lt a.numer (pos 0) in
    let there : 0 < size = abs-pos a some in
    subst
    (λ (z : ℤ). HasParts (ratio z size) (signed sign a.denom) size)
    (sym (signum_times a.numer a.denom there))
    (lowest-parts (signed sign a.denom) size there (ap (λ n. gcd n size) (signed-abs sign a.denom) ∙ gcd_comm a.denom size ∙ denom_lowest a))

-- the parts of a fraction are in lowest terms, and their ratio is the fraction
pub lowest_from : (q : Rational) (n : ℤ) (d : ℕ) → HasParts q n d → IsTrue (is_lowest n d)
lowest_from q n d parts =
    subst₂ (λ (m : ℤ) (e : ℕ). IsTrue (is_lowest m e)) parts.numer parts.denom q.lowest

pub ratio_from : (q : Rational) (n : ℤ) (d : ℕ) → HasParts q n d → ratio n d ≡ q
ratio_from q n d parts = ap₂ ratio (sym parts.numer) (sym parts.denom) ∙ ratio_parts q

sign_of_one : (s : Bool) → int_lt (signed s 1) (pos 0) ≡ s
sign_of_one true = refl
sign_of_one false = refl

pub whole_different : (d : ℤ) → 0 < unsigned_abs d → whole d ≢ zero
unfolding whole zero
whole_different d some e = absurd (let n = ap (λ a. unsigned_abs a.numer) e in omega arith)

over_lem : (q : Rational) (s t : Bool) (z : ℤ) (p r : ℕ) → int_lt z (pos 0) ≡ t → unsigned_abs z ≡ 1 → HasParts q (signed (not (beq s (int_lt z (pos 0)))) (p / gcd p r * (unsigned_abs z / gcd (unsigned_abs z) 1))) (1 / gcd (unsigned_abs z) 1 * (r / gcd p r)) → HasParts q (signed (not (beq s t)) (p / gcd p r)) (r / gcd p r)
over_lem q s t z p r sign size h =
    let h' = rw (sign, size, gcd-one 1, mul-one (p / gcd p r), one-mul (r / gcd p r)) at h in h'

-- a quotient of two whole numbers
pub over-parts : (n d : ℤ) → 0 < unsigned_abs d → let g : ℕ = gcd (unsigned_abs n) (unsigned_abs d) in HasParts (over (whole n) (whole d)) (signed (not (beq (int_lt n (pos 0)) (int_lt d (pos 0)))) (unsigned_abs n / g)) (unsigned_abs d / g)
unfolding over whole
over-parts n d some =
    let t : Bool = int_lt d (pos 0) in
    let q : Rational = times (whole n) (reciprocal (whole d)) in
    let p : ℕ = unsigned_abs n in
    let s : Bool = int_lt n (pos 0) in
    let own = reciprocal-parts (whole d) (whole_different d some) in
    let h =
    subst₂
    (λ (z : ℤ) (r : ℕ). HasParts q (signed (not (beq s (int_lt z (pos 0)))) (p / gcd p r * (unsigned_abs z / gcd (unsigned_abs z) 1))) (1 / gcd (unsigned_abs z) 1 * (r / gcd p r)))
    own.numer
    own.denom
    (times-parts (whole n) (reciprocal (whole d))) in
    over_lem q s t (signed t 1) p (unsigned_abs d) (sign_of_one t) (signed-abs t 1) h
