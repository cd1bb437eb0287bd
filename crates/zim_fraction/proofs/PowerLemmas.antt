-- Powers: which bases and exponents stay small, and which answer a power has.
use Rattle.std.proofs.Common.{ℕ, ℤ, pos, negsuc, zero as none, suc, ◌≡◌, ◌≢◌, ◌≤◌, ◌<◌, ◌^◌, ◌&&◌, Bool, true, false, cond, IfOk, Result, Ok, Err, unsigned_abs, arith, sym, ap, subst, ◌∙◌, refl, le_trans, lt_of_lt_of_le, le-ltb, le-leb, lit<}
use Rattle.std.specs.Prelude.{int_lt, int_le}
use Rattle.std.proofs.lemmas.Bool.{and_from, and_left, and_right, cond-true, cond-false, false_from_ne_true}
use native.Mathlib.Nat.{pow-le-pow_left, pow-le-pow_right, pow-zero, pow-suc}
use Rattle.zim_rational.specs.Rational.{Rational, zero, same, reciprocal}
use Rattle.zim_rational.specs.Rounding.{product_of, power}
use Rattle.zim_rational.proofs.Whole.{same_Decides}
use Rattle.zim_rational.proofs.Powers.{reciprocal_product_of}
use Rattle.zim_fraction.specs.Limit.{limit, is_number}
use Rattle.zim_fraction.specs.Answers.{number_answer, power_answer}
use Rattle.zim_fraction.specs.declared.fault.NumFault.{NumFault}
use Rattle.zim_fraction.specs.declared.fault.NumFault.TheVariants as fault

zero-pow : (k : ℕ) → 0 ^ suc k ≡ 0
zero-pow k = pow-suc 0 k ∙ omega arith

one-pow : (k : ℕ) → 1 ^ k ≡ 1
one-pow none = pow-zero 1
one-pow (suc k) = pow-suc 1 k ∙ (let e = one-pow k in omega arith)

pub power_small : (b k : ℕ) → b ≤ 1 → (k ≡ 0 → ⊥) → b ^ k ≡ b
power_small none none h other = absurd (other refl)
power_small none (suc k) h other = zero-pow k
power_small (suc b) k h other =
    let e : suc b ≡ 1 = omega arith in ap (λ n. n ^ k) e ∙ one-pow k ∙ sym e

pub power_large : (b k : ℕ) → 1 < b → 127 ≤ k → limit < b ^ k
power_large b k h long =
    lt_of_lt_of_le (lit< tt) (le_trans (pow-le-pow_right {n = 2} (lit< tt) long) (pow-le-pow_left {n = 2} {m = b} (omega arith) k))

-- where there is an answer it is the number
pub number_if_ok : (t : Rational) (r : Result Rational NumFault) → r ≡ number_answer t → IfOk r (λ q. q ≡ t)
unfolding number_answer
number_if_ok t r e =
    subst
    (λ (s : Result Rational NumFault). IfOk s (λ q. q ≡ t))
    (sym e)
    (elim (is_number t) as (λ (b : Bool). IfOk (cond b (Ok t) (Err fault.Past)) (λ q. q ≡ t)) [ true ↦ refl | false ↦ tt ])

pub power_up : (a : Rational) (e m : ℤ) (k : ℕ) → m ≡ e → int_le (pos 0) m ≡ true → k ≡ unsigned_abs m → product_of a k ≡ power a e
unfolding power
power_up a (pos n) m k is up size = ap (product_of a) (size ∙ ap unsigned_abs is)
power_up a (negsuc n) m k is up size = let never = sym up ∙ ap (int_le (pos 0)) is in cc

pub power_down : (a : Rational) (e m : ℤ) (k : ℕ) → a ≢ zero → m ≡ e → int_le (pos 0) m ≡ false → k ≡ unsigned_abs m → product_of (reciprocal a) k ≡ power a e
unfolding power
power_down a (pos n) m k some is down size =
    let never = sym down ∙ ap (int_le (pos 0)) is ∙ le-leb 0 n (omega arith) in cc
power_down a (negsuc n) m k some is down size =
    ap (product_of (reciprocal a)) (size ∙ ap unsigned_abs is) ∙ reciprocal_product_of a (suc n) some

not_below : (e m : ℤ) → m ≡ e → int_le (pos 0) m ≡ true → int_lt e (pos 0) ≡ false
not_below (pos n) m is up = le-ltb n 0 (omega arith)
not_below (negsuc n) m is up = let never = sym up ∙ ap (int_le (pos 0)) is in cc

below_lem : (e m : ℤ) → m ≡ e → int_le (pos 0) m ≡ false → int_lt e (pos 0) ≡ true
below_lem (pos n) m is down = let never = sym down ∙ ap (int_le (pos 0)) is ∙ le-leb 0 n (omega arith) in cc
below_lem (negsuc n) m is down = refl

pub power_answer_up : (a : Rational) (e m : ℤ) → m ≡ e → int_le (pos 0) m ≡ true → number_answer (power a e) ≡ power_answer a e
unfolding power_answer
power_answer_up a e m is up =
    sym (cond-false (same a zero && int_lt e (pos 0)) _ _ (and_right (same a zero) (int_lt e (pos 0)) (not_below e m is up)))

pub power_answer_some : (a : Rational) (e : ℤ) → a ≢ zero → number_answer (power a e) ≡ power_answer a e
unfolding power_answer
power_answer_some a e some =
    sym (cond-false (same a zero && int_lt e (pos 0)) _ _ (and_left (same a zero) (int_lt e (pos 0)) (false_from_ne_true (same a zero) (λ t. some ((same_Decides a zero).0 t)))))

pub power_answer_none : (a : Rational) (e m : ℤ) → a ≡ zero → m ≡ e → int_le (pos 0) m ≡ false → Err fault.DivZero ≡ power_answer a e
unfolding power_answer
power_answer_none a e m is_zero is down =
    sym (cond-true (same a zero && int_lt e (pos 0)) _ _ (and_from (same a zero) (int_lt e (pos 0)) ((same_Decides a zero).1 is_zero) (below_lem e m is down)))
