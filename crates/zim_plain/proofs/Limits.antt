-- Numbers within the limit, and the sums of them that are.
use Rattle.std.proofs.Common.{ℕ, ℤ, pos, ◌≡◌, ◌≤◌, ◌/◌, ◌*◌, ◌+ℤ◌, IsTrue, unsigned_abs, nat_le, arith, refl, sym, ap, ap₂, subst, ◌∙◌, le-leb, leb-true, mul-one}
use Rattle.std.proofs.Math.Nat.{div_self, div-le_self}
use Rattle.std.proofs.lemmas.Bool.{and_from, and_parts}
use Rattle.zim_rational.specs.Gcd.{lcm, gcd-one}
use Rattle.zim_rational.proofs.Multiples.{lcm_is, lcm_comm}
use Rattle.zim_rational.proofs.Fraction.{denom-pos}
use Rattle.std.proofs.lemmas.Int.{ints}
use Rattle.zim_rational.specs.Rational.{Rational, ratio, zero, one, plus, negate, whole}
use Rattle.zim_rational.proofs.Parts.{ratio-parts, signed-abs, negate-parts, abs_negated}
use Rattle.zim_fraction.specs.Limit.{limit, is_number, is_sum_within, common_denom, common_numer, numer_over}
use Rattle.zim_fraction.proofs.SumLaws.{sum_parts, sum_from_parts, common_ratio, common_denom-pos}

number_from : (q : Rational) → unsigned_abs q.numer ≤ limit → q.denom ≤ limit → IsTrue (is_number q)
number_from q n d = and_from (nat_le (unsigned_abs q.numer) limit) (nat_le q.denom limit) (le-leb (unsigned_abs q.numer) limit n) (le-leb q.denom limit d)

numer_small : (q : Rational) → IsTrue (is_number q) → unsigned_abs q.numer ≤ limit
numer_small q h = leb-true (unsigned_abs q.numer) limit ((and_parts (nat_le (unsigned_abs q.numer) limit) (nat_le q.denom limit) h).0)

denom_small : (q : Rational) → IsTrue (is_number q) → q.denom ≤ limit
denom_small q h = leb-true q.denom limit ((and_parts (nat_le (unsigned_abs q.numer) limit) (nat_le q.denom limit) h).1)

pub zero_is_number : IsTrue (is_number zero)
unfolding zero whole
zero_is_number = refl

pub one_is_number : IsTrue (is_number one)
unfolding one whole
one_is_number = refl

-- ---- a sum with 0

lcm_one : (a : ℕ) → lcm a 1 ≡ a
lcm_one a = lcm_is a 1 ∙ ap (λ g. a * (1 / g)) (gcd-one a) ∙ mul-one a

over_itself : (q : Rational) (m : ℕ) → m ≡ q.denom → numer_over q m ≡ q.numer
over_itself q m e =
    let one : m / q.denom ≡ 1 = ap (λ n. n / q.denom) e ∙ div_self (denom-pos q) in
    rw one (omega (arith, ints))

zero_over : (m : ℕ) → numer_over zero m ≡ pos 0
unfolding zero whole
zero_over m = omega (arith, ints)

zero_denom : zero.denom ≡ 1
unfolding zero whole
zero_denom = refl

-- a number and 0 have a sum within the limit
pub sum_with_zero : (a : Rational) → IsTrue (is_number a) → IsTrue (is_sum_within a zero)
sum_with_zero a h =
    let denom : common_denom a zero ≡ a.denom = ap (lcm a.denom) zero_denom ∙ lcm_one a.denom in
    let first : numer_over a (common_denom a zero) ≡ a.numer = over_itself a (common_denom a zero) denom in
    let second : numer_over zero (common_denom a zero) ≡ pos 0 = zero_over (common_denom a zero) in
    let n = numer_small a h in
    let d = denom_small a h in
    sum_from_parts a zero
    (record {
      denom = subst (λ (k : ℕ). k ≤ limit) (sym denom) d;
      first = subst (λ (z : ℤ). unsigned_abs z ≤ limit) (sym first) n;
      second = subst (λ (z : ℤ). unsigned_abs z ≤ limit) (sym second) (omega arith);
      sum = subst (λ (z : ℤ). unsigned_abs z ≤ limit) (sym (ap₂ (λ (y z : ℤ). y +ℤ z) first second)) (omega (arith, ints, n));
    })

-- the order of two numbers makes no difference to whether their sum is within the limit
turned : (a b : Rational) → IsTrue (is_sum_within a b) → IsTrue (is_sum_within b a)
turned a b h =
    let p = sum_parts a b h in
    let denom : common_denom b a ≡ common_denom a b = lcm_comm b.denom a.denom in
    sum_from_parts b a
    (record {
      denom = subst (λ (k : ℕ). k ≤ limit) (sym denom) p.denom;
      first = subst (λ (k : ℕ). unsigned_abs (numer_over b k) ≤ limit) (sym denom) p.second;
      second = subst (λ (k : ℕ). unsigned_abs (numer_over a k) ≤ limit) (sym denom) p.first;
      sum = subst (λ (k : ℕ). unsigned_abs (numer_over b k +ℤ numer_over a k) ≤ limit) (sym denom) (subst (λ (z : ℤ). unsigned_abs z ≤ limit) (plus_turned (numer_over a (common_denom a b)) (numer_over b (common_denom a b))) p.sum);
    })
  where
    plus_turned : (y z : ℤ) → (y +ℤ z) ≡ (z +ℤ y)
    plus_turned y z = omega (arith, ints)

pub zero_with_sum : (a : Rational) → IsTrue (is_number a) → IsTrue (is_sum_within zero a)
zero_with_sum a h = turned a zero (sum_with_zero a h)

-- ---- results within the limit

pub negate_is_number : (a : Rational) → IsTrue (is_number a) → IsTrue (is_number (negate a))
negate_is_number a h =
    let parts = negate-parts a in
    number_from (negate a)
    (subst (λ (k : ℕ). k ≤ limit) (sym (ap unsigned_abs parts.numer ∙ abs_negated a.numer)) (numer_small a h))
    (subst (λ (k : ℕ). k ≤ limit) (sym parts.denom) (denom_small a h))

divided_small : (n g : ℕ) → n ≤ limit → n / g ≤ limit
divided_small n g h = let le = div-le_self n g in omega arith

-- a sum within the limit is a number
pub sum_is_number : (a b : Rational) → IsTrue (is_sum_within a b) → IsTrue (is_number (plus a b))
sum_is_number a b h =
    let p = sum_parts a b h in
    let n : ℤ = common_numer a b in
    let m : ℕ = common_denom a b in
    let parts = ratio-parts n m (common_denom-pos a b) in
    let is = common_ratio a b in
    subst (λ (q : Rational). IsTrue (is_number q)) (sym is)
    (number_from (ratio n m)
    (subst (λ (k : ℕ). k ≤ limit) (sym (ap unsigned_abs parts.numer ∙ signed-abs _ _)) (divided_small (unsigned_abs n) _ p.sum))
    (subst (λ (k : ℕ). k ≤ limit) (sym parts.denom) (divided_small m _ p.denom)))
