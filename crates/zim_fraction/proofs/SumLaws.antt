-- Sums over the least common denominator: which part passes the limit, and that the result is the sum.
use Rattle.std.proofs.Common.{ℕ, ℤ, pos, negsuc, neg_ℤ, suc, lit≤, mul-one, ◌≡◌, ◌*◌, ◌/◌, ◌<◌, ◌≤◌, ◌^◌, ◌+ℤ◌, ◌*ℤ◌, ◌&&◌, Bool, IsTrue, unsigned_abs, nat_le, to_z, of_z, Ok, Err, arith, refl, sym, ap, ap₂, subst, subst₂, ◌∙◌, le-leb, leb-true}
use Rattle.std.specs.Int.{w128}
use Rattle.std.proofs.lemmas.Bool.{and_from, and_parts, cond-true, cond-false, false_from_ne_true}
use Rattle.std.proofs.lemmas.Int.{ints}
use native.Mathlib.Nat.{pos_of_ne-zero, ne_of_gt, mul-zero}
use Rattle.zim_rational.specs.Gcd.{gcd, lcm, euclid}
use Rattle.zim_rational.specs.Rational.{Rational, ratio, plus, negate, minus}
use Rattle.zim_rational.proofs.Fraction.{denom-pos}
use Rattle.zim_rational.proofs.Multiples.{lcm-pos, left_times, right_times}
use Rattle.zim_rational.proofs.CommonSum.{common_plus}
use Rattle.zim_fraction.specs.Limit.{limit, common_denom, common_numer, numer_over, is_sum_within}
use Rattle.zim_fraction.specs.Answers.{sum_answer, difference_answer}
use Rattle.zim_fraction.proofs.PartLaws.{carried, carried_bound}

-- the parts of a sum that have to stay within the limit
pub record IsSumWithin (a b : Rational) : Type 0 where
  pub denom : common_denom a b ≤ limit
  pub first : unsigned_abs (numer_over a (common_denom a b)) ≤ limit
  pub second : unsigned_abs (numer_over b (common_denom a b)) ≤ limit
  pub sum : unsigned_abs (common_numer a b) ≤ limit

pub sum_parts : (a b : Rational) → IsTrue (is_sum_within a b) → IsSumWithin a b
unfolding is_sum_within
sum_parts a b t =
    let m : ℕ = common_denom a b in
    let d : Bool = nat_le m limit in
    let f : Bool = nat_le (unsigned_abs (numer_over a m)) limit in
    let s : Bool = nat_le (unsigned_abs (numer_over b m)) limit in
    let n : Bool = nat_le (unsigned_abs (common_numer a b)) limit in
    let last = and_parts (d && f && s) n t in
    let third = and_parts (d && f) s last.0 in
    let front = and_parts d f third.0 in
    record {
      denom = leb-true m limit front.0;
      first = leb-true (unsigned_abs (numer_over a m)) limit front.1;
      second = leb-true (unsigned_abs (numer_over b m)) limit third.1;
      sum = leb-true (unsigned_abs (common_numer a b)) limit last.1;
    }

pub sum_from_parts : (a b : Rational) → IsSumWithin a b → IsTrue (is_sum_within a b)
unfolding is_sum_within
sum_from_parts a b parts =
    let m : ℕ = common_denom a b in
    let d : Bool = nat_le m limit in
    let f : Bool = nat_le (unsigned_abs (numer_over a m)) limit in
    let s : Bool = nat_le (unsigned_abs (numer_over b m)) limit in
    let n : Bool = nat_le (unsigned_abs (common_numer a b)) limit in
    and_from
    (d && f && s)
    n
    (and_from
    (d && f)
    s
    (and_from d f (le-leb m limit parts.denom) (le-leb (unsigned_abs (numer_over a m)) limit parts.first))
    (le-leb (unsigned_abs (numer_over b m)) limit parts.second))
    (le-leb (unsigned_abs (common_numer a b)) limit parts.sum)

pub denom_past : (a b : Rational) (c d : ℕ) → c ≡ a.denom → d ≡ b.denom → (lcm c d ≤ limit → ⊥) → IsTrue (is_sum_within a b) → ⊥
denom_past a b c d e f large t =
    large (subst₂ (λ (m n : ℕ). lcm m n ≤ limit) (sym e) (sym f) ((sum_parts a b t).denom))

pub first_past : (a b : Rational) (n : ℤ) (c d m : ℕ) → n ≡ a.numer → c ≡ a.denom → d ≡ b.denom → m ≡ lcm c d → (unsigned_abs (n *ℤ pos (m / c)) ≤ limit → ⊥) → IsTrue (is_sum_within a b) → ⊥
first_past a b n c d m numer e f common large t = large (rw (common, e, f, numer) ((sum_parts a b t).first))

pub second_past : (a b : Rational) (n : ℤ) (c d m : ℕ) → n ≡ b.numer → c ≡ a.denom → d ≡ b.denom → m ≡ lcm c d → (unsigned_abs (n *ℤ pos (m / d)) ≤ limit → ⊥) → IsTrue (is_sum_within a b) → ⊥
second_past a b n c d m numer e f common large t = large (rw (common, e, f, numer) ((sum_parts a b t).second))

-- the two numerators over the common denominator, as they are passed on
pub record IsOverCommon (a b : Rational) (x y : ℤ) (m : ℕ) : Type 0 where
  pub denom : m ≡ common_denom a b
  pub first : x ≡ numer_over a (common_denom a b)
  pub second : y ≡ numer_over b (common_denom a b)

pub over_common : (a b : Rational) (k l x y : ℤ) (c d m : ℕ) → k ≡ a.numer → l ≡ b.numer → c ≡ a.denom → d ≡ b.denom → m ≡ lcm c d → x ≡ k *ℤ pos (m / c) → y ≡ l *ℤ pos (m / d) → IsOverCommon a b x y m
over_common a b k l x y c d m first second e f common left right =
    record {
      denom = rw (common, e, f) refl;
      first = rw (left, first, common, e, f) refl;
      second = rw (right, second, common, e, f) refl;
    }

pub total_past : (a b : Rational) (x y : ℤ) (m : ℕ) → IsOverCommon a b x y m → (unsigned_abs (x +ℤ y) ≤ limit → ⊥) → IsTrue (is_sum_within a b) → ⊥
total_past a b x y m parts large t =
    large (subst₂ (λ (p q : ℤ). unsigned_abs (p +ℤ q) ≤ limit) (sym parts.first) (sym parts.second) ((sum_parts a b t).sum))

pub sum_is_within : (a b : Rational) (x y : ℤ) (m : ℕ) → IsOverCommon a b x y m → m ≤ limit → unsigned_abs x ≤ limit → unsigned_abs y ≤ limit → unsigned_abs (x +ℤ y) ≤ limit → IsTrue (is_sum_within a b)
sum_is_within a b x y m parts denom first second sum =
    sum_from_parts a b (record {
      denom = subst (λ (n : ℕ). n ≤ limit) parts.denom denom;
      first = subst (λ (z : ℤ). unsigned_abs z ≤ limit) parts.first first;
      second = subst (λ (z : ℤ). unsigned_abs z ≤ limit) parts.second second;
      sum = subst₂ (λ (p q : ℤ). unsigned_abs (p +ℤ q) ≤ limit) parts.first parts.second sum;
    })

pub sum_pair : (a b : Rational) (x y n : ℤ) (m : ℕ) → IsOverCommon a b x y m → n ≡ x +ℤ y → ◌≡◌ {A = ℤ × ℕ} (n, m) (common_numer a b, common_denom a b)
sum_pair a b x y n m parts e =
    ap₂ (λ (z : ℤ) (k : ℕ). (z, k)) (e ∙ ap₂ (λ p q. p +ℤ q) parts.first parts.second) parts.denom

-- ---- the result

factor-pos : (d k m : ℕ) → d * k ≡ m → 0 < m → 0 < k
factor-pos d k m e some = pos_of_ne-zero (λ none. ne_of_gt some (sym e ∙ ap (λ n. d * n) none ∙ mul-zero d))

pub common_denom-pos : (a b : Rational) → 0 < common_denom a b
common_denom-pos a b = lcm-pos a.denom b.denom (denom-pos a) (denom-pos b)

pub common_ratio : (a b : Rational) → plus a b ≡ ratio (common_numer a b) (common_denom a b)
common_ratio a b =
    let m : ℕ = common_denom a b in
    let e : a.denom * (m / a.denom) ≡ m = left_times a.denom b.denom in
    let f : b.denom * (m / b.denom) ≡ m = right_times a.denom b.denom in
    let some : 0 < m = common_denom-pos a b in
    common_plus a b (m / a.denom) (m / b.denom) m e f (factor-pos a.denom (m / a.denom) m e some) (factor-pos b.denom (m / b.denom) m f some)

-- what the pair of the common numerator and denominator gives
pub pair_sum : (a b q : Rational) (n : ℤ) (m : ℕ) → IsTrue (is_sum_within a b) → ◌≡◌ {A = ℤ × ℕ} (n, m) (common_numer a b, common_denom a b) → q ≡ ratio (to_z w128 (of_z w128 n)) m → q ≡ plus a b
pair_sum a b q n m t e is =
    is ∙ ap₂ ratio (carried n (common_numer a b) ((sum_parts a b t).sum) (ap (λ p. p.0) e)) (ap (λ p. p.1) e) ∙ sym (common_ratio a b)

pub pair_bounds : (a b : Rational) (n : ℤ) (m : ℕ) → IsTrue (is_sum_within a b) → ◌≡◌ {A = ℤ × ℕ} (n, m) (common_numer a b, common_denom a b) → (0 < m) × (unsigned_abs (to_z w128 (of_z w128 n)) ≤ limit) × (m ≤ limit)
pair_bounds a b n m t e =
    let denom : m ≡ common_denom a b = ap (λ p. p.1) e in (
      subst (λ (k : ℕ). 0 < k) (sym denom) (common_denom-pos a b),
      carried_bound n (common_numer a b) ((sum_parts a b t).sum) (ap (λ p. p.0) e),
      subst (λ (k : ℕ). k ≤ limit) (sym denom) ((sum_parts a b t).denom),
    )

pub sum_ok : (a b q : Rational) → IsTrue (is_sum_within a b) → q ≡ plus a b → Ok q ≡ sum_answer a b
unfolding sum_answer
sum_ok a b q t e = ap Ok e ∙ sym (cond-true (is_sum_within a b) _ _ t)

pub sum_past : (a b : Rational) → (IsTrue (is_sum_within a b) → ⊥) → Err (record {}) ≡ sum_answer a b
unfolding sum_answer
sum_past a b large = sym (cond-false (is_sum_within a b) _ _ (false_from_ne_true (is_sum_within a b) large))

-- a difference is answered as the sum with the negation
pub difference_is : (a b : Rational) → sum_answer a (negate b) ≡ difference_answer a b
unfolding sum_answer difference_answer minus
difference_is a b = refl

lcm_ones : lcm 1 1 ≡ 1
unfolding lcm gcd euclid
lcm_ones = refl

times_unit : (n : ℤ) → n *ℤ pos 1 ≡ n
times_unit (pos n) = ap pos (mul-one n)
times_unit (negsuc n) = ap (λ k. neg_ℤ (pos k)) (mul-one (suc n))

-- whole numbers below 2^63 have a sum within the limit
pub small_sum_within : (a b : Rational) (x y : ℤ) (c d : ℕ) → x ≡ a.numer → c ≡ a.denom → c ≡ 1 → y ≡ b.numer → d ≡ b.denom → d ≡ 1 → unsigned_abs x < 2 ^ 63 → unsigned_abs y < 2 ^ 63 → IsTrue (is_sum_within a b)
small_sum_within a b x y c d numer e one second f also h k =
    sum_is_within
    a
    b
    x
    y
    1
    (over_common a b x y x y 1 1 1 numer second (sym one ∙ e) (sym also ∙ f) (sym lcm_ones) (sym (times_unit x)) (sym (times_unit y)))
    (lit≤ tt)
    (omega arith)
    (omega arith)
    (omega (arith, ints))
