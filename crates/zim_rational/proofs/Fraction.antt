-- Each fraction is (x - y)/d for plain numbers x, y and d, and each operation and comparison is read off these.
use Rattle.std.proofs.Common.{ℕ, ℤ, pos, negsuc, neg_ℤ, ◌≡◌, ◌+◌, ◌*◌, ◌/◌, ◌<◌, ◌≤◌, ◌+ℤ◌, ◌-ℤ◌, ◌*ℤ◌, ◌↔◌, zero, suc, lit<, IsTrue, Bool, arith, refl, sym, ap, subst, mul_comm, ◌∙◌, mul-pos, mul-zero, zero-lt-suc, unsigned_abs, nat_lt, nat_eq}
use Rattle.std.proofs.lemmas.Bool.{and_parts, both_ways, not-true, not_from_false, false_from_ne_true, ltb-true, eqb-true}
use Rattle.std.proofs.lemmas.Int.{ints}
use Rattle.std.specs.Int.{◌∣◌}
use borrow.Author.Differences.{up, down, sum_is_lem, product_is, neg_is, quot_is, le-true, true_is_le}
use native.Mathlib.Nat.{lt_of_not-le, eq_of_mul-eq-mul_right, le_of_mul-le-mul_right, mul-le-mul_right, mul-div_cancel', zero-div}
use Rattle.zim_rational.specs.Gcd.{gcd, gcd-is, one_lowest}
use Rattle.zim_rational.specs.Rational as Q
use Rattle.zim_rational.specs.Rational.{Rational, ratio, plus, times, negate, at_most, below, minus, whole, same_from_parts}

-- q is (x - y)/d
pub record IsFraction (q : Rational) (x y d : ℕ) : Type 0 where
  pub positive : 0 < d
  pub equal : up q.numer * d + y * q.denom ≡ x * q.denom + down q.numer * d

pub denom-pos : (q : Rational) → 0 < q.denom
denom-pos q = ltb-true 0 q.denom ((and_parts (nat_lt 0 q.denom) (nat_eq (gcd (unsigned_abs q.numer) q.denom) 1) q.lowest).0)

pub denom_lowest : (q : Rational) → gcd (unsigned_abs q.numer) q.denom ≡ 1
denom_lowest q =
    eqb-true _ 1 ((and_parts (nat_lt 0 q.denom) (nat_eq (gcd (unsigned_abs q.numer) q.denom) 1) q.lowest).1)

-- each fraction is its numerator over its denominator
pub own-parts : (q : Rational) → IsFraction q (up q.numer) (down q.numer) q.denom
own-parts q = record { positive = denom-pos q; equal = omega arith }

-- two lowest terms that are equal by the products across are one
cross_same : (n m : ℤ) (d e : ℕ) → gcd (unsigned_abs n) d ≡ 1 → gcd (unsigned_abs m) e ≡ 1 → 0 < d → 0 < e → up n * e + down m * d ≡ up m * d + down n * e → (n ≡ m) × (d ≡ e)
cross_same (pos a) (pos b) d e p q some more h =
    let one = one_lowest a d b e p q some more (omega arith) in (ap pos one.0, one.1)
cross_same (pos a) (negsuc b) d e p q some more h =
    absurd (omega (arith, mul-pos {m = suc b} {n = d} (zero-lt-suc b) some))
cross_same (negsuc a) (pos b) d e p q some more h =
    absurd (omega (arith, mul-pos {m = suc a} {n = e} (zero-lt-suc a) more))
cross_same (negsuc a) (negsuc b) d e p q some more h =
    let one = one_lowest (suc a) d (suc b) e p q some more (omega arith) in (omega (arith, ints, one.0), one.1)

cross_lem : (P P' D Q Q' E x y d u v e : ℕ) → 0 < d → 0 < e → P * d + y * D ≡ x * D + P' * d → Q * e + v * E ≡ u * E + Q' * e → x * e + v * d ≡ u * d + y * e → P * E + Q' * D ≡ Q * D + P' * E
cross_lem P P' D Q Q' E x y d u v e some more h k l =
    eq_of_mul-eq-mul_right
    (d * e)
    (mul-pos some more)
    (P * E + Q' * D)
    (Q * D + P' * E)
    (let a = ap (λ n. n * (E * e)) h in
    let b = ap (λ n. n * (D * d)) k in let c = ap (λ n. n * (D * E)) l in omega arith)

-- (x - y)/d and (u - v)/e are one fraction where the products across are equal
pub one_fraction : (p q : Rational) (x y d u v e : ℕ) → IsFraction p x y d → IsFraction q u v e → x * e + v * d ≡ u * d + y * e → p ≡ q
one_fraction p q x y d u v e f g h =
    let same =
    cross_same
    p.numer
    q.numer
    p.denom
    q.denom
    (denom_lowest p)
    (denom_lowest q)
    (denom-pos p)
    (denom-pos q)
    (cross_lem (up p.numer) (down p.numer) p.denom (up q.numer) (down q.numer) q.denom x y d u v e f.positive g.positive f.equal g.equal h) in
    same_from_parts p q same.0 same.1

-- ---- the ratio of two numbers

ratio_lem : (a b c g x y d u v : ℕ) → g * a ≡ x → g * b ≡ y → g * c ≡ d → u ≡ a → v ≡ b → u * d + y * c ≡ x * c + v * d
ratio_lem a b c g x y d u v e f h p q = rw (p, q, ← e, ← f, ← h) (omega arith)

up_divided : (n : ℤ) (g : ℕ) → g ∣ unsigned_abs n → g * (up n / g) ≡ up n
up_divided (pos a) g h = mul-div_cancel' g h
up_divided (negsuc a) g h = ap (λ q. g * q) (zero-div g) ∙ mul-zero g

down_divided : (n : ℤ) (g : ℕ) → g ∣ unsigned_abs n → g * (down n / g) ≡ down n
down_divided (pos a) g h = ap (λ q. g * q) (zero-div g) ∙ mul-zero g
down_divided (negsuc a) g h = mul-div_cancel' g h

pub ratio-is : (n : ℤ) (d : ℕ) → 0 < d → IsFraction (ratio n d) (up n) (down n) d
unfolding ratio
ratio-is n zero h = absurd (omega arith)
ratio-is n (suc d) h =
    let g : ℕ = gcd (unsigned_abs n) (suc d) in
    let whole = gcd-is (unsigned_abs n) (suc d) in
    let a = up_divided n g whole.0 in
    let b = down_divided n g whole.0 in
    let c = mul-div_cancel' g whole.1 in
    let q = quot_is n g in
    record {
      positive = h;
      equal = ratio_lem (up n / g) (down n / g) (suc d / g) g (up n) (down n) (suc d) _ _ a b c q.0 q.1;
    }

-- a fraction that is (s - t)/m is (x - y)/d too, where these are equal by the products across
pub moved : (q : Rational) (s t m x y d : ℕ) → IsFraction q s t m → 0 < d → s * d + y * m ≡ x * m + t * d → IsFraction q x y d
moved q s t m x y d f some h =
    record {
      positive = some;
      equal =
          eq_of_mul-eq-mul_right
          m
          f.positive
          (up q.numer * d + y * q.denom)
          (x * q.denom + down q.numer * d)
          (let a = ap (λ n. n * d) f.equal in let b = ap (λ n. n * q.denom) h in omega arith);
    }

-- ---- the operations

plus_lem : (P P' D Q Q' E x y u v d N N' : ℕ) → P * d + y * D ≡ x * D + P' * d → Q * d + v * E ≡ u * E + Q' * d → N + P' * E + Q' * D ≡ N' + P * E + Q * D → N * d + (y + v) * (D * E) ≡ (x + u) * (D * E) + N' * d
plus_lem P P' D Q Q' E x y u v d N N' h k l =
    let a = ap (λ n. n * E) h in let b = ap (λ n. n * D) k in let c = ap (λ n. n * d) l in omega arith

pub plus-is : (p q : Rational) (x y u v d : ℕ) → IsFraction p x y d → IsFraction q u v d → IsFraction (plus p q) (x + u) (y + v) d
unfolding plus
plus-is p q x y u v d f g =
    let a = p.numer *ℤ pos q.denom in
    let b = q.numer *ℤ pos p.denom in
    moved
    (plus p q)
    (up (a +ℤ b))
    (down (a +ℤ b))
    (p.denom * q.denom)
    (x + u)
    (y + v)
    d
    (ratio-is (a +ℤ b) (p.denom * q.denom) (mul-pos (denom-pos p) (denom-pos q)))
    f.positive
    (plus_lem (up p.numer) (down p.numer) p.denom (up q.numer) (down q.numer) q.denom x y u v d (up (a +ℤ b)) (down (a +ℤ b)) f.equal g.equal (omega (arith, sum_is_lem a b, product_is p.numer (pos q.denom), product_is q.numer (pos p.denom))))

times_lem : (P P' D Q Q' E x y d u v e N N' : ℕ) → P * d + y * D ≡ x * D + P' * d → Q * e + v * E ≡ u * E + Q' * e → N ≡ P * Q + P' * Q' → N' ≡ P * Q' + P' * Q → N * (d * e) + (x * v + y * u) * (D * E) ≡ (x * u + y * v) * (D * E) + N' * (d * e)
times_lem P P' D Q Q' E x y d u v e N N' h k l m =
    rw
    (l, m)
    (let a = ap (λ n. n * (Q * e)) h in
    let b = ap (λ n. n * (Q' * e)) h in
    let c = ap (λ n. n * (x * D)) k in let f = ap (λ n. n * (y * D)) k in omega arith)

pub times-is : (p q : Rational) (x y d u v e : ℕ) → IsFraction p x y d → IsFraction q u v e → IsFraction (times p q) (x * u + y * v) (x * v + y * u) (d * e)
unfolding times
times-is p q x y d u v e f g =
    moved
    (times p q)
    (up (p.numer *ℤ q.numer))
    (down (p.numer *ℤ q.numer))
    (p.denom * q.denom)
    (x * u + y * v)
    (x * v + y * u)
    (d * e)
    (ratio-is (p.numer *ℤ q.numer) (p.denom * q.denom) (mul-pos (denom-pos p) (denom-pos q)))
    (mul-pos f.positive g.positive)
    (times_lem
    (up p.numer)
    (down p.numer)
    p.denom
    (up q.numer)
    (down q.numer)
    q.denom
    x
    y
    d
    u
    v
    e
    (up (p.numer *ℤ q.numer))
    (down (p.numer *ℤ q.numer))
    f.equal
    g.equal
    ((product_is p.numer q.numer).0)
    ((product_is p.numer q.numer).1))

pub negate-is : (p : Rational) (x y d : ℕ) → IsFraction p x y d → IsFraction (negate p) y x d
unfolding negate
negate-is p x y d f =
    moved
    (negate p)
    (up (neg_ℤ p.numer))
    (down (neg_ℤ p.numer))
    p.denom
    y
    x
    d
    (ratio-is (neg_ℤ p.numer) p.denom (denom-pos p))
    f.positive
    (rw ((neg_is p.numer).0, (neg_is p.numer).1) (omega (arith, f.equal)))

at_most_lem : (P P' D Q Q' E x y u v d : ℕ) → 0 < D → 0 < E → 0 < d → P * d + y * D ≡ x * D + P' * d → Q * d + v * E ≡ u * E + Q' * d → (P * E + Q' * D ≤ Q * D + P' * E) ↔ (x + v ≤ u + y)
at_most_lem P P' D Q Q' E x y u v d some more positive h k =
    let a = ap (λ n. n * E) h in
    let b = ap (λ n. n * D) k in (
      λ le.
          le_of_mul-le-mul_right
          {k = D * E}
          (let c = mul-le-mul_right d le in omega arith)
          (mul-pos some more),
      λ le.
          le_of_mul-le-mul_right
          {k = d}
          (let c = mul-le-mul_right (D * E) le in omega arith)
          positive,
    )

pub at_most-is : (p q : Rational) (x y u v d : ℕ) → IsFraction p x y d → IsFraction q u v d → IsTrue (at_most p q) ↔ (x + v ≤ u + y)
unfolding at_most
at_most-is p q x y u v d f g =
    let lem =
    at_most_lem
    (up p.numer)
    (down p.numer)
    p.denom
    (up q.numer)
    (down q.numer)
    q.denom
    x
    y
    u
    v
    d
    (denom-pos p)
    (denom-pos q)
    f.positive
    f.equal
    g.equal in
    let a = product_is p.numer (pos q.denom) in
    let b = product_is q.numer (pos p.denom) in (
      λ (t : IsTrue (at_most p q)). lem.0 (let le = le-true (p.numer *ℤ pos q.denom) (q.numer *ℤ pos p.denom) t in omega arith),
      λ (le : x + v ≤ u + y). sym (true_is_le (p.numer *ℤ pos q.denom) (q.numer *ℤ pos p.denom) (let more = lem.1 le in omega arith)),
    )

pub below-is : (p q : Rational) (x y u v d : ℕ) → IsFraction p x y d → IsFraction q u v d → IsTrue (below p q) ↔ (x + v < u + y)
unfolding below
below-is p q x y u v d f g =
    let order = at_most-is q p u v x y d g f in
    let test : Bool = at_most q p in (
      λ h. lt_of_not-le (λ le. both_ways test (not-true test h) (order.1 (let l : u + y ≤ x + v = le in l))),
      λ (h : x + v < u + y). not_from_false test (false_from_ne_true test (λ t. absurd (let le = order.0 t in omega arith))),
    )

same_lem : (P P' D x y u v d : ℕ) → 0 < D → P * d + y * D ≡ x * D + P' * d → P * d + v * D ≡ u * D + P' * d → x + v ≡ u + y
same_lem P P' D x y u v d some h k = eq_of_mul-eq-mul_right D some (x + v) (u + y) (omega arith)

pub same-is : (p q : Rational) (x y u v d : ℕ) → IsFraction p x y d → IsFraction q u v d → (p ≡ q) ↔ (x + v ≡ u + y)
same-is p q x y u v d f g = (
  λ e.
      let h : IsFraction q x y d = subst (λ (r : Rational). IsFraction r x y d) e f in
      same_lem (up q.numer) (down q.numer) q.denom x y u v d (denom-pos q) h.equal g.equal,
  λ e. one_fraction p q x y d u v d f g (let a = ap (λ n. n * d) e in omega arith),
)

-- ---- the form itself

pub scaled : (q : Rational) (x y d k : ℕ) → 0 < k → IsFraction q x y d → IsFraction q (x * k) (y * k) (d * k)
scaled q x y d k some f =
    record {
      positive = mul-pos f.positive some;
      equal = let a = ap (λ n. n * k) f.equal in omega arith;
    }

-- (x - y)/d
unfoldable pub fraction : ℕ → ℕ → ℕ → Rational
fraction x y d = ratio (pos x -ℤ pos y) d

pub fraction-is : (x y d : ℕ) → 0 < d → IsFraction (fraction x y d) x y d
unfolding fraction
fraction-is x y d some =
    moved
    (fraction x y d)
    (up (pos x -ℤ pos y))
    (down (pos x -ℤ pos y))
    d
    x
    y
    d
    (ratio-is (pos x -ℤ pos y) d some)
    some
    (let a = sum_is_lem (pos x) (neg_ℤ (pos y)) in
    let b = neg_is (pos y) in
    let c : up (pos x -ℤ pos y) + y ≡ x + down (pos x -ℤ pos y) = omega arith in
    let e = ap (λ n. n * d) c in omega arith)

pub fraction_of : (q : Rational) (x y d : ℕ) → IsFraction q x y d → q ≡ fraction x y d
fraction_of q x y d f =
    one_fraction q (fraction x y d) x y d x y d f (fraction-is x y d f.positive) refl

pub plus_fractions : (x y u v d : ℕ) → 0 < d → plus (fraction x y d) (fraction u v d) ≡ fraction (x + u) (y + v) d
plus_fractions x y u v d some =
    fraction_of _ _ _ _ (plus-is _ _ x y u v d (fraction-is x y d some) (fraction-is u v d some))

pub negate_fraction : (x y d : ℕ) → 0 < d → negate (fraction x y d) ≡ fraction y x d
negate_fraction x y d some = fraction_of _ _ _ _ (negate-is _ x y d (fraction-is x y d some))

pub times_fractions : (x y d u v e : ℕ) → 0 < d → 0 < e → times (fraction x y d) (fraction u v e) ≡ fraction (x * u + y * v) (x * v + y * u) (d * e)
times_fractions x y d u v e some more =
    fraction_of _ _ _ _ (times-is _ _ x y d u v e (fraction-is x y d some) (fraction-is u v e more))

pub at_most_fractions : (x y u v d : ℕ) → 0 < d → IsTrue (at_most (fraction x y d) (fraction u v d)) ↔ (x + v ≤ u + y)
at_most_fractions x y u v d some =
    at_most-is _ _ x y u v d (fraction-is x y d some) (fraction-is u v d some)

pub below_fractions : (x y u v d : ℕ) → 0 < d → IsTrue (below (fraction x y d) (fraction u v d)) ↔ (x + v < u + y)
below_fractions x y u v d some = below-is _ _ x y u v d (fraction-is x y d some) (fraction-is u v d some)

pub same_fractions : (x y u v d : ℕ) → 0 < d → (fraction x y d ≡ fraction u v d) ↔ (x + v ≡ u + y)
same_fractions x y u v d some =
    same-is _ _ x y u v d (fraction-is x y d some) (fraction-is u v d some)

pub minus_fractions : (x y u v d : ℕ) → 0 < d → minus (fraction x y d) (fraction u v d) ≡ fraction (x + v) (y + u) d
unfolding minus
minus_fractions x y u v d some = rw (negate_fraction u v d some) (plus_fractions x y v u d some)

pub whole-is : (n : ℤ) → IsFraction (whole n) (up n) (down n) 1
unfolding whole
whole-is n = record { positive = lit< tt; equal = refl }

pub zero-is : IsFraction Q.zero 0 0 1
unfolding Q.zero
zero-is = whole-is (pos 0)

pub one-is : IsFraction Q.one 1 0 1
unfolding Q.one
one-is = whole-is (pos 1)

pub zero_fraction : (d : ℕ) → 0 < d → Q.zero ≡ fraction 0 0 d
zero_fraction d some = one_fraction _ _ 0 0 1 0 0 d zero-is (fraction-is 0 0 d some) (omega arith)

pub one_fraction_of : (d : ℕ) → 0 < d → Q.one ≡ fraction d 0 d
one_fraction_of d some = one_fraction _ _ 1 0 1 d 0 d one-is (fraction-is d 0 d some) (omega arith)

-- ---- a common denominator

-- what holds of all (x - y)/d holds of all fractions
pub common1 : (P : Rational → Type 0) → ((x y d : ℕ) → 0 < d → P (fraction x y d)) → (p : Rational) → P p
common1 P h p =
    let f = own-parts p in
    subst P (sym (fraction_of p _ _ _ f)) (h (up p.numer) (down p.numer) p.denom f.positive)

widened : (x y d k : ℕ) → 0 < d → 0 < k → fraction x y d ≡ fraction (x * k) (y * k) (d * k)
widened x y d k some more =
    fraction_of (fraction x y d) _ _ _ (scaled (fraction x y d) x y d k more (fraction-is x y d some))

own_widened : (q : Rational) (d : ℕ) → 0 < d → q ≡ fraction (up q.numer * d) (down q.numer * d) (d * q.denom)
own_widened q d some =
    subst
    (λ (m : ℕ). q ≡ fraction (up q.numer * d) (down q.numer * d) m)
    (mul_comm q.denom d)
    (fraction_of q _ _ _ (scaled q (up q.numer) (down q.numer) q.denom d some (own-parts q)))

-- the same of two to six fractions over one denominator
pub common2 : (P : Rational → Rational → Type 0) → ((x y u v d : ℕ) → 0 < d → P (fraction x y d) (fraction u v d)) → (p q : Rational) → P p q
common2 P each p =
    common1
    (λ p. (q : Rational) → P p q)
    (λ x y d some q.
    let k : ℕ = q.denom in
    let more : 0 < k = denom-pos q in
    rw
    (own_widened q d some, widened x y d k some more)
    (each (x * k) (y * k) (up q.numer * d) (down q.numer * d) (d * k) (mul-pos some more)))
    p

pub common3 : (P : Rational → Rational → Rational → Type 0) → ((x y u v a b d : ℕ) → 0 < d → P (fraction x y d) (fraction u v d) (fraction a b d)) → (p q r : Rational) → P p q r
common3 P each p q =
    common2
    (λ p q. (r : Rational) → P p q r)
    (λ x y u v d some r.
    let k : ℕ = r.denom in
    let more : 0 < k = denom-pos r in
    rw
    (own_widened r d some, widened x y d k some more, widened u v d k some more)
    (each (x * k) (y * k) (u * k) (v * k) (up r.numer * d) (down r.numer * d) (d * k) (mul-pos some more)))
    p q

pub common4 : (P : Rational → Rational → Rational → Rational → Type 0) → ((x y u v a b e f d : ℕ) → 0 < d → P (fraction x y d) (fraction u v d) (fraction a b d) (fraction e f d)) → (p q r s : Rational) → P p q r s
common4 P each p q r =
    common3
    (λ p q r. (s : Rational) → P p q r s)
    (λ x y u v a b d some s.
    let k : ℕ = s.denom in
    let more : 0 < k = denom-pos s in
    rw
    (own_widened s d some, widened x y d k some more, widened u v d k some more, widened a b d k some more)
    (each (x * k) (y * k) (u * k) (v * k) (a * k) (b * k) (up s.numer * d) (down s.numer * d) (d * k) (mul-pos some more)))
    p q r

pub common5 : (P : Rational → Rational → Rational → Rational → Rational → Type 0) → ((x y u v a b e f g h d : ℕ) → 0 < d → P (fraction x y d) (fraction u v d) (fraction a b d) (fraction e f d) (fraction g h d)) → (p q r s t : Rational) → P p q r s t
common5 P each p q r s =
    common4
    (λ p q r s. (t : Rational) → P p q r s t)
    (λ x y u v a b e f d some t.
    let k : ℕ = t.denom in
    let more : 0 < k = denom-pos t in
    rw
    (own_widened t d some, widened x y d k some more, widened u v d k some more, widened a b d k some more, widened e f d k some more)
    (each (x * k) (y * k) (u * k) (v * k) (a * k) (b * k) (e * k) (f * k) (up t.numer * d) (down t.numer * d) (d * k) (mul-pos some more)))
    p q r s

pub common6 : (P : Rational → Rational → Rational → Rational → Rational → Rational → Type 0) → ((x y u v a b e f g h i j d : ℕ) → 0 < d → P (fraction x y d) (fraction u v d) (fraction a b d) (fraction e f d) (fraction g h d) (fraction i j d)) → (p q r s t o : Rational) → P p q r s t o
common6 P each p q r s t =
    common5
    (λ p q r s t. (o : Rational) → P p q r s t o)
    (λ x y u v a b e f g h d some o.
    let k : ℕ = o.denom in
    let more : 0 < k = denom-pos o in
    rw
    (own_widened o d some, widened x y d k some more, widened u v d k some more, widened a b d k some more, widened e f d k some more, widened g h d k some more)
    (each (x * k) (y * k) (u * k) (v * k) (a * k) (b * k) (e * k) (f * k) (g * k) (h * k) (up o.numer * d) (down o.numer * d) (d * k) (mul-pos some more)))
    p q r s t

-- sums, differences, negations and comparisons over one denominator, as equations and orders of numbers
pub ruleset fractions = (plus_fractions, minus_fractions, negate_fraction, at_most_fractions, below_fractions, same_fractions)

-- the same with products
pub ruleset products = (times_fractions, mul-pos, fractions)
