-- Factorials grow, each is the one before times the next number, and which answer each gives.
use Rattle.std.proofs.Common.{ℕ, ℤ, pos, negsuc, zero as none, suc, ◌≡◌, ◌+◌, ◌≤◌, ◌<◌, ◌&&◌, inl, inr, Bool, true, false, cond, Ok, Err, unsigned_abs, of_z, to_z, arith, refl, sym, ap, ap₂, subst, ◌∙◌, add-one, lt_of_not-le}
use Rattle.std.specs.Prelude.{nat_le, int_le}
use Rattle.std.specs.Int.{w128}
use Rattle.std.proofs.lemmas.Bool.{cases_eq, and_parts, and_from, and_left, leb-true, le-leb, lt-leb, cond-true, cond-false, false_from_ne_true}
use Rattle.std.proofs.lemmas.Int.{to_z-of_z, to_z_pos, fits_signed_from_abs}
use borrow.Author.Differences.{up, down}
use Rattle.zim_fraction.specs.Answers.{product_answer}
use Rattle.zim_fraction.specs.Limit.{limit, is_number}
use Rattle.zim_fraction.specs.declared.fault.Past.{Past}
use Rattle.zim_functions.specs.Numbers.{product_to, is_natural, within_limit, factorial_answer}
use Rattle.zim_functions.specs.declared.stops.NumStop.TheVariants as stop
use Rattle.zim_rational.specs.Rational.{Rational, zero, one, whole, times, at_most, is_whole}
use Rattle.zim_rational.proofs.Fraction.{IsFraction, own-parts, moved, denom-pos, zero-is, at_most-is}
use Rattle.zim_rational.proofs.Whole.{whole_times}

pub no_factors : one ≡ whole (pos (product_to 0))
unfolding one product_to
no_factors = refl

pub no_factors_within : product_to 0 ≤ limit
unfolding product_to
no_factors_within = omega arith

-- a count up to n as a signed number
pub counted : (n k : ℕ) → n ≤ limit → k < n → to_z w128 (k + 1) ≡ pos (k + 1)
counted n k small below = to_z_pos w128 (k + 1) (omega arith)

factorial_grows : (m n : ℕ) → m ≤ n → product_to m ≤ product_to n
unfolding product_to
factorial_grows m none h = let e : m ≡ 0 = omega arith in rw e (omega arith)
factorial_grows m (suc n) h =
    elim (cases_eq m (suc n)) [
      | inl same ↦ rw same (omega arith)
      | inr other ↦ let before = factorial_grows m n (omega arith) in omega arith
    ]

next_product : (k : ℕ) → times (whole (pos (product_to k))) (whole (pos (k + 1))) ≡ whole (pos (product_to (k + 1)))
unfolding product_to
next_product k = rw add-one (whole_times (pos (product_to k)) (pos (suc k)))

small : (m : ℕ) → is_number (whole (pos m)) ≡ true → m ≤ limit
unfolding whole
small m t = leb-true m limit ((and_parts (nat_le m limit) (nat_le 1 limit) t).0)

number : (m : ℕ) → m ≤ limit → is_number (whole (pos m)) ≡ true
unfolding whole
number m h = and_from (nat_le m limit) (nat_le 1 limit) (le-leb m limit h) refl

no_number : (m : ℕ) → (m ≤ limit → ⊥) → is_number (whole (pos m)) ≡ false
unfolding whole
no_number m large = and_left (nat_le m limit) (nat_le 1 limit) (lt-leb m limit (lt_of_not-le large))

ok_parts : (within : Bool) (exact q : Rational) (past : Past) → Ok q ≡ cond within (Ok exact) (Err past) → (within ≡ true) × (q ≡ exact)
ok_parts true exact q past e = (refl, cc)
ok_parts false exact q past e = absurd (cc)

past_part : (within : Bool) (exact : Rational) (past other : Past) → Err past ≡ cond within (Ok exact) (Err other) → within ≡ true → ⊥
past_part true exact past other e t = cc
past_part false exact past other e t = cc

-- a product that is within the limit is the next factorial
pub next_is : (k : ℕ) (p f q : Rational) → p ≡ whole (pos (product_to k)) → f ≡ whole (pos (k + 1)) → Ok q ≡ product_answer p f → (q ≡ whole (pos (product_to (k + 1)))) × (product_to (k + 1) ≤ limit)
unfolding product_answer
next_is k p f q so_far factor e =
    let exact : times p f ≡ whole (pos (product_to (k + 1))) = ap₂ times so_far factor ∙ next_product k in
    let parts = ok_parts (is_number (times p f)) (times p f) q (record {}) e in
    (parts.1 ∙ exact, small (product_to (k + 1)) (subst (λ (t : Rational). is_number t ≡ true) exact parts.0))

-- one that is past is that of a factor of n!
pub next_past : (n k : ℕ) (p f : Rational) (past : Past) → k + 1 ≤ n → p ≡ whole (pos (product_to k)) → f ≡ whole (pos (k + 1)) → Err past ≡ product_answer p f → product_to n ≤ limit → ⊥
unfolding product_answer
next_past n k p f past within so_far factor e h =
    let exact : times p f ≡ whole (pos (product_to (k + 1))) = ap₂ times so_far factor ∙ next_product k in
    let below : product_to (k + 1) ≤ limit = let grows = factorial_grows (k + 1) n within in omega arith in
    past_part (is_number (times p f)) (times p f) past (record {}) e (subst (λ (t : Rational). is_number t ≡ true) (sym exact) (number (product_to (k + 1)) below))

-- ---- answers

pub factorial_ok : (a q : Rational) (n : ℕ) → is_natural a ≡ true → n ≡ unsigned_abs a.numer → product_to n ≤ limit → q ≡ whole (pos (product_to n)) → Ok q ≡ factorial_answer a
unfolding factorial_answer within_limit
factorial_ok a q n natural size within e =
    let exact = whole (pos (product_to n)) in
    ap Ok e ∙ sym (cond-true (is_number exact) (Ok exact) (Err stop.Past) (number (product_to n) within)) ∙ ap (λ (m : ℕ). within_limit (whole (pos (product_to m)))) size ∙ sym (cond-true (is_natural a) _ _ natural)

pub factorial_past : (a : Rational) (n : ℕ) → is_natural a ≡ true → n ≡ unsigned_abs a.numer → (product_to n ≤ limit → ⊥) → Err stop.Past ≡ factorial_answer a
unfolding factorial_answer within_limit
factorial_past a n natural size large =
    let exact = whole (pos (product_to n)) in
    sym (cond-false (is_number exact) (Ok exact) (Err stop.Past) (no_number (product_to n) large)) ∙ ap (λ (m : ℕ). within_limit (whole (pos (product_to m)))) size ∙ sym (cond-true (is_natural a) _ _ natural)

pub factorial_none : (a : Rational) → is_natural a ≡ false → Err stop.NotInteger ≡ factorial_answer a
unfolding factorial_answer
factorial_none a other = sym (cond-false (is_natural a) _ _ other)

-- ---- the sign

zero_over : (d : ℕ) → 0 < d → IsFraction zero 0 0 d
zero_over d some = moved zero 0 0 1 0 0 d zero-is some (omega arith)

from_zero : (a : Rational) (n : ℕ) → a.numer ≡ pos n → at_most zero a ≡ true
from_zero a n e =
    let own = subst (λ (z : ℤ). IsFraction a (up z) (down z) a.denom) e (own-parts a) in
    (at_most-is _ _ _ _ _ _ _ (zero_over a.denom (denom-pos a)) own).1 (omega arith)

under_zero : (a : Rational) (n : ℕ) → a.numer ≡ negsuc n → at_most zero a ≡ false
under_zero a n e =
    let own = subst (λ (z : ℤ). IsFraction a (up z) (down z) a.denom) e (own-parts a) in
    false_from_ne_true (at_most zero a) (λ t. absurd (let le = (at_most-is _ _ _ _ _ _ _ (zero_over a.denom (denom-pos a)) own).0 t in omega arith))

sign : (a : Rational) (n : ℤ) → a.numer ≡ n → int_le (pos 0) n ≡ at_most zero a
sign a (pos n) e = le-leb 0 n (omega arith) ∙ sym (from_zero a n e)
sign a (negsuc n) e = sym (under_zero a n e)

-- a number that is passed comes back
pub passed : (x z : ℤ) → x ≡ z → unsigned_abs x ≤ limit → to_z w128 (of_z w128 x) ≡ z
passed x z e within = to_z-of_z w128 x (fits_signed_from_abs w128 x (omega arith)) ∙ e

pub natural_whole : (a : Rational) (z : ℤ) → is_whole a ≡ true → z ≡ a.numer → int_le (pos 0) z ≡ is_natural a
unfolding is_natural
natural_whole a z whole numer =
    ap (λ (n : ℤ). int_le (pos 0) n) numer ∙ sign a a.numer refl ∙ sym (ap (λ (b : Bool). b && at_most zero a) whole)

pub natural_unwhole : (a : Rational) → is_whole a ≡ false → false ≡ is_natural a
unfolding is_natural
natural_unwhole a other = sym (and_left (is_whole a) (at_most zero a) other)
