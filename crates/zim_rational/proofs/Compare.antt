-- How two fractions are ordered, as an order of plain numbers, and what each answer says.
use Rattle.std.proofs.Common.{ℕ, ℤ, pos, negsuc, suc, zero-lt-suc, mul_comm, ◌≡◌, ◌+◌, ◌*◌, ◌<◌, ◌==◌, ◌*ℤ◌, inl, inr, arith, sym, ap, ap₂, subst, ◌∙◌, lt-ltb, le-ltb, eq-eqb, ne_eqb, mul-lt-mul_of_pos_right, nat_cmp, int_cmp, Ordering, Less, Equal, Greater, mul-pos}
use Rattle.std.specs.Prelude.{int_lt, nat_lt}
use Rattle.std.specs.Ordering.{MatchOrdering}
use Rattle.std.proofs.lemmas.Bool.{cases_order, cond-true, cond-false}
use borrow.Author.Differences.{up, down, product_is, true_is_lt, false_is_lt}
use Rattle.zim_rational.specs.Rational.{Rational, rational_cmp, IsBelow}
use Rattle.zim_rational.proofs.Fraction.{IsFraction, own-parts, scaled, same-is, below-is, denom-pos}

pub cmp-less : (m n : ℕ) → m < n → nat_cmp m n ≡ Less
cmp-less m n h = cond-true (nat_lt m n) Less _ (lt-ltb m n h)

pub cmp-equal : (m n : ℕ) → m ≡ n → nat_cmp m n ≡ Equal
cmp-equal m n e =
    cond-false (nat_lt m n) Less _ (le-ltb m n (omega arith)) ∙ cond-true (m == n) Equal Greater (eq-eqb m n e)

pub cmp-greater : (m n : ℕ) → n < m → nat_cmp m n ≡ Greater
cmp-greater m n h =
    cond-false (nat_lt m n) Less _ (le-ltb m n (omega arith)) ∙ cond-false (m == n) Equal Greater (ne_eqb m n (λ e. omega arith))

-- each whole number is the difference of two plain ones, of which the sums across are ordered as the numbers are
int_cmp-nat : (u v : ℤ) → int_cmp u v ≡ nat_cmp (up u + down v) (up v + down u)
int_cmp-nat u v =
    elim (cases_order (up u + down v) (up v + down u)) [
      | inl e ↦
          cond-false (int_lt u v) Less _ (sym (false_is_lt u v (omega arith))) ∙ cond-false (int_lt v u) Greater Equal (sym (false_is_lt v u (omega arith))) ∙ sym (cmp-equal _ _ e)
      | inr (inl h) ↦ cond-true (int_lt u v) Less _ (sym (true_is_lt u v h)) ∙ sym (cmp-less _ _ h)
      | inr (inr h) ↦
          cond-false (int_lt u v) Less _ (sym (false_is_lt u v (omega arith))) ∙ cond-true (int_lt v u) Greater Equal (sym (true_is_lt v u h)) ∙ sym (cmp-greater _ _ h)
    ]

pub rational_cmp-nat : (a b : Rational) → rational_cmp a b ≡ nat_cmp (up a.numer * b.denom + down b.numer * a.denom) (up b.numer * a.denom + down a.numer * b.denom)
unfolding rational_cmp
rational_cmp-nat a b =
    let e = product_is a.numer (pos b.denom) in
    let f = product_is b.numer (pos a.denom) in
    int_cmp-nat (a.numer *ℤ pos b.denom) (b.numer *ℤ pos a.denom) ∙ ap₂ nat_cmp (let s : up (a.numer *ℤ pos b.denom) + down (b.numer *ℤ pos a.denom) ≡ up a.numer * b.denom + down b.numer * a.denom = omega arith in s) (let s : up (b.numer *ℤ pos a.denom) + down (a.numer *ℤ pos b.denom) ≡ up b.numer * a.denom + down a.numer * b.denom = omega arith in s)

pub cmp-times : (m n d : ℕ) → 0 < d → nat_cmp (m * d) (n * d) ≡ nat_cmp m n
cmp-times m n d some =
    elim (cases_order m n) [
      | inl e ↦ cmp-equal (m * d) (n * d) (ap (λ k. k * d) e) ∙ sym (cmp-equal m n e)
      | inr (inl h) ↦ cmp-less (m * d) (n * d) (mul-lt-mul_of_pos_right h some) ∙ sym (cmp-less m n h)
      | inr (inr h) ↦ cmp-greater (m * d) (n * d) (mul-lt-mul_of_pos_right h some) ∙ sym (cmp-greater m n h)
    ]

-- over one denominator the numerators decide
pub rational_cmp-numers : (a b : Rational) → a.denom ≡ b.denom → rational_cmp a b ≡ int_cmp a.numer b.numer
rational_cmp-numers a b e =
    rational_cmp-nat a b ∙ ap₂ nat_cmp (let s : up a.numer * b.denom + down b.numer * a.denom ≡ (up a.numer + down b.numer) * b.denom = rw e (omega arith) in s) (let s : up b.numer * a.denom + down a.numer * b.denom ≡ (up b.numer + down a.numer) * b.denom = rw e (omega arith) in s) ∙ cmp-times (up a.numer + down b.numer) (up b.numer + down a.numer) b.denom (denom-pos b) ∙ sym (int_cmp-nat a.numer b.numer)

-- ---- what each answer says

both_over : (a b : Rational) → IsFraction a (up a.numer * b.denom) (down a.numer * b.denom) (a.denom * b.denom) × IsFraction b (up b.numer * a.denom) (down b.numer * a.denom) (a.denom * b.denom)
both_over a b = (
  scaled a (up a.numer) (down a.numer) a.denom b.denom (denom-pos b) (own-parts a),
  subst
      (λ (d : ℕ). IsFraction b (up b.numer * a.denom) (down b.numer * a.denom) d)
      (mul_comm b.denom a.denom)
      (scaled b (up b.numer) (down b.numer) b.denom a.denom (denom-pos a) (own-parts b)),
)

pub rational_cmp-match : (a b : Rational) → MatchOrdering (rational_cmp a b) (IsBelow a b) (a ≡ b) (IsBelow b a)
rational_cmp-match a b =
    let m : ℕ = up a.numer * b.denom + down b.numer * a.denom in
    let n : ℕ = up b.numer * a.denom + down a.numer * b.denom in
    let over = both_over a b in
    let P : Ordering → Type 0 = λ o. MatchOrdering o (IsBelow a b) (a ≡ b) (IsBelow b a) in
    subst P (sym (rational_cmp-nat a b)) (elim (cases_order m n) [
      | inl e ↦ subst P (sym (cmp-equal m n e)) ((same-is a b _ _ _ _ _ over.0 over.1).1 e)
      | inr (inl h) ↦ subst P (sym (cmp-less m n h)) ((below-is a b _ _ _ _ _ over.0 over.1).1 h)
      | inr (inr h) ↦ subst P (sym (cmp-greater m n h)) ((below-is b a _ _ _ _ _ over.1 over.0).1 h)
    ])

-- ---- by the signs

by_parts : (a b : Rational) (m n : ℕ) → up a.numer * b.denom + down b.numer * a.denom ≡ m → up b.numer * a.denom + down a.numer * b.denom ≡ n → rational_cmp a b ≡ nat_cmp m n
by_parts a b m n e f = rational_cmp-nat a b ∙ ap₂ nat_cmp e f

-- two numbers of different signs
pub cmp_negative-positive : (a b : Rational) (m n : ℕ) → a.numer ≡ negsuc m → b.numer ≡ pos n → rational_cmp a b ≡ Less
cmp_negative-positive a b m n e f =
    let size : ℕ = n * a.denom + suc m * b.denom in
    let some = mul-pos (zero-lt-suc m) (denom-pos b) in
    by_parts a b 0 size (rw (e, f) (omega arith)) (rw (e, f) (omega arith)) ∙ cmp-less 0 size (omega arith)

pub cmp_positive-negative : (a b : Rational) (m n : ℕ) → a.numer ≡ pos m → b.numer ≡ negsuc n → rational_cmp a b ≡ Greater
cmp_positive-negative a b m n e f =
    let size : ℕ = m * b.denom + suc n * a.denom in
    let some = mul-pos (zero-lt-suc n) (denom-pos a) in
    by_parts a b size 0 (rw (e, f) (omega arith)) (rw (e, f) (omega arith)) ∙ cmp-greater size 0 (omega arith)

-- two numbers of one sign
pub cmp_positive : (a b : Rational) (m n : ℕ) → a.numer ≡ pos m → b.numer ≡ pos n → rational_cmp a b ≡ nat_cmp (m * b.denom) (n * a.denom)
cmp_positive a b m n e f =
    by_parts a b (m * b.denom) (n * a.denom) (rw (e, f) (omega arith)) (rw (e, f) (omega arith))

pub cmp_negative : (a b : Rational) (m n : ℕ) → a.numer ≡ negsuc m → b.numer ≡ negsuc n → rational_cmp a b ≡ nat_cmp (suc n * a.denom) (suc m * b.denom)
cmp_negative a b m n e f =
    by_parts a b (suc n * a.denom) (suc m * b.denom) (rw (e, f) (omega arith)) (rw (e, f) (omega arith))
