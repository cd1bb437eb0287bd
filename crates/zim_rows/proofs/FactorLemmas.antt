-- The factor of numbers is the least one that makes them short, and how the code finds it step by step.
use Rattle.std.proofs.Common.{ℕ, ℤ, pos, ◌≡◌, ◌<◌, ◌≤◌, List, [], ◌∷◌, ◌++◌, Bool, true, false, cond, nat_le, unsigned_abs, to_z, of_z, Ok, Err, IsTrue, arith, refl, ap, ap₂, sym, ◌∙◌, subst}
use Rattle.std.specs.Prelude.{Result}
use Rattle.std.specs.Result.{OkIff}
use Rattle.std.specs.Int.{◌∣◌, w128}
use Rattle.zim_fraction.proofs.PartLaws.{carried}
use Rattle.std.proofs.lemmas.Bool.{le-leb, leb-true}
use Rattle.std.proofs.lemmas.Nat.Gcd.{dvd_refl, dvd_trans, le_of_dvd}
use Rattle.std.proofs.Math.Nat.{one-dvd}
use Rattle.zim_fraction.specs.Limit.{limit}
use Rattle.zim_fraction.specs.Answers.{lcm_answer}
use Rattle.zim_fraction.specs.declared.fault.Past.{Past}
use Rattle.zim_rational.specs.Gcd.{lcm}
use Rattle.zim_rational.specs.Rational.{Rational}
use Rattle.zim_rational.proofs.Fraction.{denom-pos}
use Rattle.zim_rational.proofs.Multiples.{lcm-pos, left_divides, right_divides, lcm_least}
use Rattle.zim_decimal.specs.Short.{part}
use Rattle.zim_rows.specs.Factors.{factor_from, factor_of, IsFactor, AreShortTimes, IsLeastFactor}
use Rattle.zim_rows.proofs.ShortLaws.{part-pos, short_times, from_short_times}

part_some : (q : Rational) → 0 < part q.denom
part_some q = part-pos q.denom (denom-pos q)

pub factor-pos : (k : ℕ) (qs : List Rational) → 0 < k → 0 < factor_from k qs
unfolding factor_from
factor-pos k [] some = some
factor-pos k (q ∷ qs) some = factor-pos (lcm k (part q.denom)) qs (lcm-pos k (part q.denom) some (part_some q))

pub factor_divides : (k : ℕ) (qs : List Rational) → k ∣ factor_from k qs
unfolding factor_from
factor_divides k [] = dvd_refl k
factor_divides k (q ∷ qs) =
    dvd_trans k (left_divides k (part q.denom)) (factor_divides (lcm k (part q.denom)) qs)

pub factor_append : (k : ℕ) (ps qs : List Rational) → factor_from k (ps ++ qs) ≡ factor_from (factor_from k ps) qs
unfolding factor_from
factor_append k [] qs = refl
factor_append k (p ∷ ps) qs = factor_append (lcm k (part p.denom)) ps qs

factor_short : (k : ℕ) (qs : List Rational) (n : ℕ) → factor_from k qs ∣ n → AreShortTimes n qs
unfolding factor_from
factor_short k [] n d = tt
factor_short k (q ∷ qs) n d = (
  short_times q n (dvd_trans (part q.denom) (dvd_trans (part q.denom) (right_divides k (part q.denom)) (factor_divides (lcm k (part q.denom)) qs)) d),
  factor_short (lcm k (part q.denom)) qs n d,
)

factor_least : (k : ℕ) (qs : List Rational) (m : ℕ) → k ∣ m → AreShortTimes m qs → factor_from k qs ∣ m
unfolding factor_from
factor_least k [] m d all = d
factor_least k (q ∷ qs) m d all =
    factor_least (lcm k (part q.denom)) qs m (lcm_least k (part q.denom) m (part_some q) d (from_short_times q m all.0)) all.1

pub factor_is_least : (qs : List Rational) → IsLeastFactor qs (factor_of qs)
factor_is_least qs = record {
  positive = factor-pos 1 qs (omega arith);
  short = factor_short 1 qs (factor_of qs) (dvd_refl (factor_of qs));
  least = λ m all. factor_least 1 qs m (one-dvd m) all;
}

-- ---- step by step

-- k is the factor so far, and the factor from it over the rest is the whole one
pub record IsFactoring (numbers : List Rational) (k : ℕ) (rest : List Rational) : Type 0 where
  pub some : 1 ≤ k
  pub small : k ≤ limit
  pub same : factor_from k rest ≡ factor_of numbers

pub factor_start : (numbers : List Rational) → IsFactoring numbers 1 numbers
factor_start numbers = record { some = omega arith; small = omega arith; same = refl }

-- the least common multiple with a number's denominator, as a call answers it
lcm_by : (v : ℕ) (b : Bool) (m : ℤ) (o : Past) → Ok m ≡ cond b (Ok (pos v)) (Err o) → IsTrue b × (m ≡ pos v)
lcm_by v true m o e = (refl, cc)
lcm_by v false m o e = absurd (cc)

lcm_none : (v : ℕ) (b : Bool) (p o : Past) → Err p ≡ cond b (Ok (pos v)) (Err o) → ¬ IsTrue b
lcm_none v true p o e = absurd (cc)
lcm_none v false p o e = λ t. cc

shown : (k : ℕ) (q : Rational) (a d : ℤ) → a ≡ pos k → d ≡ pos q.denom → lcm_answer (unsigned_abs a) (part (unsigned_abs d)) ≡ lcm_answer k (part q.denom)
shown k q a d e f = ap₂ (λ (x y : ℤ). lcm_answer (unsigned_abs x) (part (unsigned_abs y))) e f

pub more_made : (k : ℕ) (q : Rational) (a d m : ℤ) → a ≡ pos k → d ≡ pos q.denom → Ok m ≡ lcm_answer (unsigned_abs a) (part (unsigned_abs d)) → (lcm k (part q.denom) ≤ limit) × (m ≡ pos (lcm k (part q.denom)))
unfolding lcm_answer
more_made k q a d m e f ok =
    let both = lcm_by (lcm k (part q.denom)) (nat_le (lcm k (part q.denom)) limit) m _ (ok ∙ shown k q a d e f) in
    (leb-true (lcm k (part q.denom)) limit both.0, both.1)

pub more_past : (k : ℕ) (q : Rational) (a d : ℤ) (p : Past) → a ≡ pos k → d ≡ pos q.denom → Err p ≡ lcm_answer (unsigned_abs a) (part (unsigned_abs d)) → ¬ (lcm k (part q.denom) ≤ limit)
unfolding lcm_answer
more_past k q a d p e f past small =
    lcm_none (lcm k (part q.denom)) (nat_le (lcm k (part q.denom)) limit) p _ (past ∙ shown k q a d e f) (le-leb (lcm k (part q.denom)) limit small)

pub more-pos : (k : ℕ) (q : Rational) → 1 ≤ k → 1 ≤ lcm k (part q.denom)
more-pos k q some = lcm-pos k (part q.denom) some (part_some q)

-- the least common multiple comes back from its bits
pub more_back : (k : ℕ) (q : Rational) (m : ℤ) → 1 ≤ k → (lcm k (part q.denom) ≤ limit) × (m ≡ pos (lcm k (part q.denom))) → 1 ≤ unsigned_abs (to_z w128 (of_z w128 m))
more_back k q m some made =
    subst (λ (z : ℤ). 1 ≤ unsigned_abs z) (sym (carried m (pos (lcm k (part q.denom))) made.0 made.1)) (more-pos k q some)

-- a step that takes a number's denominator
pub factor_step : (numbers r rest : List Rational) (q : Rational) (k m : ℕ) → IsFactoring numbers k r → r ≡ q ∷ rest → (lcm k (part q.denom) ≤ limit) × (m ≡ lcm k (part q.denom)) → IsFactoring numbers m rest
unfolding factor_from
factor_step numbers r rest q k m s f ok = record {
  some = subst (λ (v : ℕ). 1 ≤ v) (sym ok.1) (more-pos k q s.some);
  small = subst (λ (v : ℕ). v ≤ limit) (sym ok.1) ok.0;
  same = ap (λ v. factor_from v rest) ok.1 ∙ sym (ap (factor_from k) f) ∙ s.same;
}

-- a step whose least common multiple is past
pub factor_past : (numbers r rest : List Rational) (q : Rational) (k : ℕ) → IsFactoring numbers k r → r ≡ q ∷ rest → ¬ (lcm k (part q.denom) ≤ limit) → ¬ (factor_of numbers ≤ limit)
unfolding factor_from
factor_past numbers r rest q k s f past small =
    let value : ℕ = lcm k (part q.denom) in
    let same : factor_from value rest ≡ factor_of numbers = sym (ap (factor_from k) f) ∙ s.same in
    let within : value ≤ factor_from value rest = le_of_dvd (factor-pos value rest (more-pos k q s.some)) (factor_divides value rest) in
    past (omega arith)

-- the end, at which nothing is left
pub factor_end : (numbers r : List Rational) (k : ℕ) → IsFactoring numbers k r → r ≡ [] → (factor_of numbers ≤ limit) × (k ≡ factor_of numbers)
unfolding factor_from
factor_end numbers r k s e =
    let same : k ≡ factor_of numbers = sym (ap (factor_from k) e) ∙ s.same in
    (subst (λ (v : ℕ). v ≤ limit) same s.small, same)

-- ---- one number more

last_is : (numbers : List Rational) (q : Rational) → lcm (factor_of numbers) (part q.denom) ≡ factor_of (numbers ++ q ∷ [])
unfolding factor_from
last_is numbers q = sym (factor_append 1 numbers (q ∷ []))

pub also_made : (numbers : List Rational) (q : Rational) (k : ℕ) (r : Result ℕ Past) → OkIff r (lcm k (part q.denom) ≤ limit) (lcm k (part q.denom)) → (factor_of numbers ≤ limit) × (k ≡ factor_of numbers) → IsFactor (numbers ++ q ∷ []) r
also_made numbers q k r answer so_far =
    subst (λ (v : ℕ). OkIff r (v ≤ limit) v) (ap (λ n. lcm n (part q.denom)) so_far.1 ∙ last_is numbers q) answer

pub also_past : (numbers : List Rational) (q : Rational) → ¬ (factor_of numbers ≤ limit) → ¬ (factor_of (numbers ++ q ∷ []) ≤ limit)
also_past numbers q past small =
    let within : factor_of numbers ≤ factor_of (numbers ++ q ∷ []) =
    le_of_dvd (factor-pos 1 (numbers ++ q ∷ []) (omega arith)) (subst (λ (n : ℕ). factor_of numbers ∣ n) (sym (factor_append 1 numbers (q ∷ []))) (factor_divides (factor_of numbers) (q ∷ []))) in
    past (omega arith)
