-- What rounding says: `floor` is the one whole number from which a is less than 1 away upwards, and its kin.
use Rattle.std.proofs.Common.{ℕ, ℤ, pos, negsuc, neg_ℤ, suc, ◌≡◌, ◌+◌, ◌-◌, ◌*◌, ◌/◌, ◌<◌, ◌≤◌, ◌+ℤ◌, ◌<ℤ◌, true, false, IsTrue, cond, arith, sym, ap, ◌∙◌, subst, lit<, div-mul-le_self, div-add-mod', mod-lt, mul-pos, ◌%◌}
use Rattle.std.specs.Int.{int_div_euclid}
use native.Mathlib.Nat.{lt-div-mul-add}
use lib.IntN.{neg_ℤ-neg_ℤ}
use Rattle.std.proofs.lemmas.Bool.{false_from_ne_true}
use Rattle.std.proofs.lemmas.Int.{ints}
use borrow.Author.Differences.{up, down, sum_is_lem}
use Rattle.zim_rational.specs.Rational.{Rational, zero, one, whole, plus, negate, at_most, below, IsAtMost, IsBelow, is_whole}
use Rattle.zim_rational.specs.Rounding.{floor, ceil, round, half}
use Rattle.zim_rational.proofs.Fraction.{IsFraction, own-parts, scaled, whole-is, at_most-is, below-is, denom-pos, zero_fraction, fraction-is, moved, ratio-is, plus-is, negate-is}
use Rattle.zim_rational.proofs.Ring.{negate_negate}
use Rattle.zim_rational.proofs.Order.{at_most_below, negate_at_most}
use Rattle.zim_rational.proofs.Whole.{whole_plus, whole_negate, whole_at_most, whole_is_whole, whole_below}

whole_over : (n : ℤ) (d : ℕ) → 0 < d → IsFraction (whole n) (up n * d) (down n * d) d
whole_over n d some =
    subst (λ (m : ℕ). IsFraction (whole n) (up n * d) (down n * d) m) (let e : 1 * d ≡ d = omega arith in e) (scaled (whole n) (up n) (down n) 1 d some (whole-is n))

quotient_below : (n : ℤ) (d : ℕ) → 0 < d → let j : ℤ = int_div_euclid n (pos d) in up j * d + down n ≤ up n + down j * d
quotient_below (pos a) d some = let h = div-mul-le_self a d in omega arith
quotient_below (negsuc a) d some = let h = lt-div-mul-add {a = a} some in omega arith

quotient_above : (n : ℤ) (d : ℕ) → 0 < d → let j : ℤ = int_div_euclid n (pos d) in up n + down j * d < up j * d + d + down n
quotient_above (pos a) d some = let h = lt-div-mul-add {a = a} some in omega arith
quotient_above (negsuc a) d some = let h = div-mul-le_self a d in omega arith

next_above : (j : ℤ) (d x y : ℕ) → x + down j * d < up j * d + d + y → x + down (j +ℤ pos 1) * d < up (j +ℤ pos 1) * d + y
next_above j d x y h = let e = ap (λ n. n * d) (sum_is_lem j (pos 1)) in omega arith

between : (j k : ℤ) → k <ℤ (j +ℤ pos 1) → j <ℤ (k +ℤ pos 1) → j ≡ k
between j k h i = omega (arith, ints)

-- the floor is at most a
pub floor_at_most : (a : Rational) → IsAtMost (floor a) a
unfolding floor
floor_at_most a =
    let d : ℕ = a.denom in
    (at_most-is _ _ _ _ _ _ _ (whole_over (int_div_euclid a.numer (pos d)) d (denom-pos a)) (own-parts a)).1 (quotient_below a.numer d (denom-pos a))

-- and a is below the floor and 1
pub floor_below : (a : Rational) → IsBelow a (plus (floor a) one)
unfolding floor one
floor_below a =
    let d : ℕ = a.denom in
    let j : ℤ = int_div_euclid a.numer (pos d) in
    subst
    (λ (q : Rational). IsBelow a q)
    (sym (whole_plus j (pos 1)))
    ((below-is _ _ _ _ _ _ _ (own-parts a) (whole_over (j +ℤ pos 1) d (denom-pos a))).1 (next_above j d (up a.numer) (down a.numer) (quotient_above a.numer d (denom-pos a))))

pub floor-is_whole : (a : Rational) → IsTrue (is_whole (floor a))
unfolding floor
floor-is_whole a = whole_is_whole (int_div_euclid a.numer (pos a.denom))

-- no other whole number is so
pub floor_unique : (a : Rational) (k : ℤ) → IsAtMost (whole k) a → IsBelow a (plus (whole k) one) → floor a ≡ whole k
unfolding floor one
floor_unique a k low high =
    let j : ℤ = int_div_euclid a.numer (pos a.denom) in
    let under : IsBelow (whole k) (whole (j +ℤ pos 1)) =
    subst (λ (q : Rational). IsBelow (whole k) q) (whole_plus j (pos 1)) (at_most_below (whole k) a (plus (whole j) (whole (pos 1))) low (floor_below a)) in
    let over : IsBelow (whole j) (whole (k +ℤ pos 1)) =
    subst (λ (q : Rational). IsBelow (whole j) q) (whole_plus k (pos 1)) (at_most_below (whole j) a (plus (whole k) (whole (pos 1))) (floor_at_most a) high) in
    let one_way = (whole_below k (j +ℤ pos 1)).0 under in
    let other_way = (whole_below j (k +ℤ pos 1)).0 over in
    ap whole (between j k one_way other_way)

-- a whole number is at most a exactly where it is at most the floor
pub whole_at_most_floor : (k : ℤ) (a : Rational) → IsAtMost (whole k) a → IsAtMost (whole k) (floor a)
unfolding floor one
whole_at_most_floor k a low =
    let j : ℤ = int_div_euclid a.numer (pos a.denom) in
    let under : IsBelow (whole k) (whole (j +ℤ pos 1)) =
    subst (λ (q : Rational). IsBelow (whole k) q) (whole_plus j (pos 1)) (at_most_below (whole k) a (plus (whole j) (whole (pos 1))) low (floor_below a)) in
    let less = (whole_below k (j +ℤ pos 1)).0 under in
    (whole_at_most k j).1 (omega (arith, ints))

-- a is at most its ceiling
pub at_most_ceil : (a : Rational) → IsAtMost a (ceil a)
unfolding ceil
at_most_ceil a =
    subst
    (λ (q : Rational). IsAtMost q (negate (floor (negate a))))
    (negate_negate a)
    (negate_at_most (floor (negate a)) (negate a) (floor_at_most (negate a)))

-- a whole number is at least a exactly where it is at least the ceiling
pub ceil_at_most_whole : (a : Rational) (k : ℤ) → IsAtMost a (whole k) → IsAtMost (ceil a) (whole k)
unfolding ceil
ceil_at_most_whole a k high =
    let low : IsAtMost (whole (neg_ℤ k)) (negate a) =
    subst (λ (q : Rational). IsAtMost q (negate a)) (whole_negate k) (negate_at_most a (whole k) high) in
    subst
    (λ (q : Rational). IsAtMost (negate (floor (negate a))) q)
    (whole_negate (neg_ℤ k) ∙ ap whole (neg_ℤ-neg_ℤ k))
    (negate_at_most (whole (neg_ℤ k)) (floor (negate a)) (whole_at_most_floor (neg_ℤ k) (negate a) low))

pub ceil-is_whole : (a : Rational) → IsTrue (is_whole (ceil a))
unfolding ceil floor
ceil-is_whole a =
    let j : ℤ = int_div_euclid (negate a).numer (pos (negate a).denom) in
    subst (λ (q : Rational). IsTrue (is_whole q)) (sym (whole_negate j)) (whole_is_whole (neg_ℤ j))

-- ---- the nearest whole number

-- n/d and a half more lie from k up to below k + 1
pub record IsNearest (n d k : ℕ) : Type 0 where
  pub low : k * (d * 2) ≤ n * 2 + d
  pub high : n * 2 + d < (k + 1) * (d * 2)

zero_over : (d : ℕ) → 0 < d → IsFraction zero 0 0 d
zero_over d some = subst (λ (q : Rational). IsFraction q 0 0 d) (sym (zero_fraction d some)) (fraction-is 0 0 d some)

half_over : (d : ℕ) → 0 < d → IsFraction half d 0 (d * 2)
unfolding half
half_over d some =
    moved half 1 0 2 d 0 (d * 2) (ratio-is (pos 1) 2 (lit< tt)) (mul-pos some (lit< tt)) (omega arith)

nearest_floor : (q : Rational) (n d k : ℕ) → IsFraction q (n * 2 + d) 0 (d * 2) → IsNearest n d k → floor q ≡ whole (pos k)
unfolding one
nearest_floor q n d k f near =
    floor_unique
    q
    (pos k)
    ((at_most-is _ _ _ _ _ _ _ (whole_over (pos k) (d * 2) f.positive) f).1 (let low = near.low in omega arith))
    (subst
    (λ (r : Rational). IsBelow q r)
    (sym (whole_plus (pos k) (pos 1)))
    ((below-is _ _ _ _ _ _ _ f (whole_over (pos (k + 1)) (d * 2) f.positive)).1 (let high = near.high in omega arith)))

pub round_above : (a : Rational) (n k : ℕ) → a.numer ≡ pos n → IsNearest n a.denom k → round a ≡ whole (pos k)
unfolding round
round_above a n k e near =
    let d : ℕ = a.denom in
    let some : 0 < d = denom-pos a in
    let own : IsFraction a n 0 d = subst (λ (z : ℤ). IsFraction a (up z) (down z) d) e (own-parts a) in
    let sign : at_most zero a ≡ true = (at_most-is _ _ _ _ _ _ _ (zero_over d some) own).1 (omega arith) in
    ap (λ t. cond t (floor (plus a half)) (ceil (plus a (negate half)))) sign ∙ nearest_floor (plus a half) n d k (plus-is a half (n * 2) 0 d 0 (d * 2) (scaled a n 0 d 2 (lit< tt) own) (half_over d some)) near

pub round_under : (a : Rational) (n k : ℕ) → a.numer ≡ negsuc n → IsNearest (suc n) a.denom k → round a ≡ whole (neg_ℤ (pos k))
unfolding round ceil
round_under a n k e near =
    let d : ℕ = a.denom in
    let some : 0 < d = denom-pos a in
    let own : IsFraction a 0 (suc n) d = subst (λ (z : ℤ). IsFraction a (up z) (down z) d) e (own-parts a) in
    let sign : at_most zero a ≡ false =
    false_from_ne_true
    (at_most zero a)
    (λ t. absurd (let le = (at_most-is _ _ _ _ _ _ _ (zero_over d some) own).0 t in omega arith)) in
    let b : Rational = plus a (negate half) in
    let turned : IsFraction (negate b) (suc n * 2 + d) 0 (d * 2) =
    negate-is b 0 (suc n * 2 + d) (d * 2) (plus-is a (negate half) 0 (suc n * 2) 0 d (d * 2) (scaled a 0 (suc n) d 2 (lit< tt) own) (negate-is half d 0 (d * 2) (half_over d some))) in
    ap (λ t. cond t (floor (plus a half)) (negate (floor (negate b)))) sign ∙ ap negate (nearest_floor (negate b) (suc n) d k turned near) ∙ whole_negate (pos k)

nearest_lem : (q d r n : ℕ) → q * d + r ≡ n → r < d → r < d - r → IsNearest n d q
nearest_lem q d r n e below h = record { low = omega arith; high = omega arith }

nearest_next_lem : (q d r n : ℕ) → q * d + r ≡ n → r < d → d - r ≤ r → IsNearest n d (q + 1)
nearest_next_lem q d r n e below h = record { low = omega arith; high = omega arith }

-- the quotient is the nearest where the rest is less than half of the divisor, else the next one is
pub nearest_quotient : (n d : ℕ) → 0 < d → n % d < d - n % d → IsNearest n d (n / d)
nearest_quotient n d some h =
    nearest_lem (n / d) d (n % d) n (div-add-mod' n d) (mod-lt n some) h

pub nearest_next : (n d : ℕ) → 0 < d → d - n % d ≤ n % d → IsNearest n d (n / d + 1)
nearest_next n d some h = nearest_next_lem (n / d) d (n % d) n (div-add-mod' n d) (mod-lt n some) h
