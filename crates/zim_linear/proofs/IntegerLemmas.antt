-- The least common multiple of the denominators of a form, step by step and as a whole.
use Rattle.std.proofs.Common.{ℕ, ℤ, pos, ◌≡◌, ◌<◌, ◌≤◌, List, [], ◌∷◌, Bool, true, false, cond, nat_le, unsigned_abs, to_z, of_z, Ok, Err, arith, refl, ap, ap₂, sym, ◌∙◌, subst}
use Rattle.std.specs.Int.{◌∣◌, w128}
use Rattle.std.proofs.lemmas.Bool.{both_ways, le-leb, leb-true}
use Rattle.std.proofs.lemmas.Nat.Gcd.{dvd_refl, dvd_trans, le_of_dvd}
use Rattle.zim_fraction.specs.Limit.{limit}
use Rattle.zim_fraction.specs.Answers.{lcm_answer}
use Rattle.zim_fraction.specs.declared.fault.Past.{Past}
use Rattle.zim_fraction.proofs.PartLaws.{carried}
use Rattle.zim_rational.specs.Gcd.{lcm}
use Rattle.zim_rational.proofs.Fraction.{denom-pos}
use Rattle.zim_rational.proofs.Multiples.{lcm-pos, left_divides, right_divides, lcm_least}
use Rattle.zim_linear.specs.Forms.{Term, LinearForm}
use Rattle.zim_linear.specs.Integers.{multiple_from, common_multiple, AllDivide, IsLeastMultiple}

-- ---- the least common multiple

pub from-pos : (k : ℕ) (ts : List Term) → 0 < k → 0 < multiple_from k ts
unfolding multiple_from
from-pos k [] some = some
from-pos k (t ∷ ts) some = from-pos (lcm k t.1.denom) ts (lcm-pos k t.1.denom some (denom-pos t.1))

pub from_divides : (k : ℕ) (ts : List Term) → k ∣ multiple_from k ts
unfolding multiple_from
from_divides k [] = dvd_refl k
from_divides k (t ∷ ts) =
    dvd_trans k (left_divides k t.1.denom) (from_divides (lcm k t.1.denom) ts)

each_divides : (k : ℕ) (ts : List Term) → AllDivide ts (multiple_from k ts)
unfolding multiple_from
each_divides k [] = tt
each_divides k (t ∷ ts) =
    (dvd_trans t.1.denom (right_divides k t.1.denom) (from_divides (lcm k t.1.denom) ts), each_divides (lcm k t.1.denom) ts)

from_least : (k : ℕ) (ts : List Term) (m : ℕ) → k ∣ m → AllDivide ts m → multiple_from k ts ∣ m
unfolding multiple_from
from_least k [] m d all = d
from_least k (t ∷ ts) m d all =
    from_least (lcm k t.1.denom) ts m (lcm_least k t.1.denom m (denom-pos t.1) d all.0) all.1

pub common_is_least : (a : LinearForm) → IsLeastMultiple a (common_multiple a)
common_is_least a = record {
  positive = from-pos a.constant.denom a.terms (denom-pos a.constant);
  constant = from_divides a.constant.denom a.terms;
  coefficients = each_divides a.constant.denom a.terms;
  least = from_least a.constant.denom a.terms;
}

-- ---- step by step

-- k is the multiple so far, and the rest's multiple from it is the whole one
pub record IsMultiplying (first : ℕ) (terms : List Term) (k : ℤ) (rest : List Term) : Type 0 where
  pub n : ℕ
  pub is : k ≡ pos n
  pub some : 0 < n
  pub small : n ≤ limit
  pub same : multiple_from n rest ≡ multiple_from first terms

lcm_small : (b : Bool) (v : ℕ) (m : ℤ) (p : Past) → Ok m ≡ cond b (Ok (pos v)) (Err p) → (b ≡ true) × (m ≡ pos v)
lcm_small true v m p e = (refl, cc)
lcm_small false v m p e = absurd (cc)

lcm_large : (b : Bool) (v : ℕ) (p o : Past) → Err o ≡ cond b (Ok (pos v)) (Err p) → b ≡ false
lcm_large true v p o e = absurd (cc)
lcm_large false v p o e = refl

-- the numbers of a call of the least common multiple are those of the multiple so far and of a denominator
shown_answer : (n d : ℕ) (k e : ℤ) → k ≡ pos n → e ≡ pos d → lcm_answer (unsigned_abs k) (unsigned_abs e) ≡ lcm_answer n d
shown_answer n d k e f g = ap₂ (λ (x y : ℤ). lcm_answer (unsigned_abs x) (unsigned_abs y)) f g

shown : (first n : ℕ) (terms r rest : List Term) (t : Term) → multiple_from n r ≡ multiple_from first terms → r ≡ t ∷ rest → multiple_from (lcm n t.1.denom) rest ≡ multiple_from first terms
unfolding multiple_from
shown first n terms r rest t same e = sym (ap (multiple_from n) e) ∙ same

-- a step that takes a coefficient's denominator
pub multiple_step : (first : ℕ) (terms r rest : List Term) (t : Term) (k e m : ℤ) → IsMultiplying first terms k r → r ≡ t ∷ rest → e ≡ pos t.1.denom → Ok m ≡ lcm_answer (unsigned_abs k) (unsigned_abs e) → IsMultiplying first terms m rest
unfolding lcm_answer
multiple_step first terms r rest t k e m s f g ok =
    let value : ℕ = lcm s.n t.1.denom in
    let both = lcm_small (nat_le value limit) value m _ (ok ∙ shown_answer s.n t.1.denom k e s.is g) in
    record {
      n = value;
      is = both.1;
      some = lcm-pos s.n t.1.denom s.some (denom-pos t.1);
      small = leb-true value limit both.0;
      same = shown first s.n terms r rest t s.same f;
    }

-- a step whose least common multiple is past
pub multiple_past : (first : ℕ) (terms r rest : List Term) (t : Term) (k e : ℤ) (p : Past) → IsMultiplying first terms k r → r ≡ t ∷ rest → e ≡ pos t.1.denom → Err p ≡ lcm_answer (unsigned_abs k) (unsigned_abs e) → ¬ (multiple_from first terms ≤ limit)
unfolding lcm_answer
multiple_past first terms r rest t k e p s f g past small =
    let value : ℕ = lcm s.n t.1.denom in
    let same : multiple_from value rest ≡ multiple_from first terms = shown first s.n terms r rest t s.same f in
    let some : 0 < value = lcm-pos s.n t.1.denom s.some (denom-pos t.1) in
    let within : value ≤ multiple_from value rest = le_of_dvd (from-pos value rest some) (from_divides value rest) in
    both_ways (nat_le value limit) (lcm_large (nat_le value limit) value _ p (past ∙ shown_answer s.n t.1.denom k e s.is g)) (le-leb value limit (omega arith))

-- the end, at which nothing is left
pub multiple_end : (first : ℕ) (terms r : List Term) (k : ℤ) → IsMultiplying first terms k r → r ≡ [] → (multiple_from first terms ≤ limit) × (k ≡ pos (multiple_from first terms))
unfolding multiple_from
multiple_end first terms r k s e =
    let same : s.n ≡ multiple_from first terms = sym (ap (multiple_from s.n) e) ∙ s.same in
    (subst (λ (v : ℕ). v ≤ limit) same s.small, s.is ∙ ap pos same)

-- a whole number that went through its bits
pub wrapped_multiple : (first : ℕ) (terms r : List Term) (k : ℤ) → IsMultiplying first terms k r → IsMultiplying first terms (to_z w128 (of_z w128 k)) r
wrapped_multiple first terms r k s = record {
  n = s.n;
  is = carried k (pos s.n) s.small s.is;
  some = s.some;
  small = s.small;
  same = s.same;
}
