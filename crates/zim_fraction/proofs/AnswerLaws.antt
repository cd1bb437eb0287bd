-- Which answer the lowest terms of an exact result give: the result where they are within the limit, else past.
use Rattle.std.proofs.Common.{ℕ, ℤ, pos, negsuc, ◌≡◌, ◌≢◌, ◌≤◌, ◌<◌, to_z, of_z, SFits, zero-lt-suc, Bool, true, false, cond, unsigned_abs, nat_le, Ok, Err, Result, arith, sym, ap, subst, ◌∙◌, refl, le-leb}
use Rattle.std.proofs.lemmas.Bool.{and_from, and_left, and_right, cond-true, cond-false, false_from_ne_true, lt-leb}
use Rattle.std.specs.Int.{w128}
use Rattle.std.proofs.lemmas.Int.{to_z-of_z, fits_signed_from_abs}
use native.Mathlib.Nat.{lt_of_not-le, pos_of_ne-zero}
use Rattle.zim_rational.specs.Rational.{Rational, signed, ratio, times, over, reciprocal, whole, same, zero}
use Rattle.zim_rational.proofs.Parts.{HasParts, signed-abs, ratio_from, whole_different}
use Rattle.zim_rational.proofs.Whole.{same_Decides, zero_from_numer}
use Rattle.zim_fraction.specs.Limit.{limit, is_number}
use Rattle.zim_fraction.specs.Answers.{product_answer, number_answer, ratio_answer, quotient_answer}
use Rattle.zim_fraction.specs.declared.fault.Past.{Past}
use Rattle.zim_fraction.specs.declared.fault.NumFault.TheVariants as fault

size_of : (q : Rational) (s : Bool) (n m : ℕ) → HasParts q (signed s n) m → n ≡ unsigned_abs q.numer
size_of q s n m parts = sym (ap unsigned_abs parts.numer ∙ signed-abs s n)

number_true : (q : Rational) (s : Bool) (n m : ℕ) → HasParts q (signed s n) m → n ≤ limit → m ≤ limit → is_number q ≡ true
number_true q s n m parts small also =
    and_from
    (nat_le (unsigned_abs q.numer) limit)
    (nat_le q.denom limit)
    (le-leb (unsigned_abs q.numer) limit (subst (λ (k : ℕ). k ≤ limit) (size_of q s n m parts) small))
    (le-leb q.denom limit (subst (λ (k : ℕ). k ≤ limit) (sym parts.denom) also))

pub number_size_false : (q : Rational) (s : Bool) (n m : ℕ) → HasParts q (signed s n) m → (n ≤ limit → ⊥) → is_number q ≡ false
number_size_false q s n m parts large =
    and_left
    (nat_le (unsigned_abs q.numer) limit)
    (nat_le q.denom limit)
    (lt-leb (unsigned_abs q.numer) limit (subst (λ (k : ℕ). limit < k) (size_of q s n m parts) (lt_of_not-le large)))

pub number_denom_false : (q : Rational) (s : Bool) (n m : ℕ) → HasParts q (signed s n) m → (m ≤ limit → ⊥) → is_number q ≡ false
number_denom_false q s n m parts large =
    and_right
    (nat_le (unsigned_abs q.numer) limit)
    (nat_le q.denom limit)
    (lt-leb q.denom limit (subst (λ (k : ℕ). limit < k) (sym parts.denom) (lt_of_not-le large)))

pub product_ok : (a b q : Rational) (s : Bool) (n m : ℕ) → HasParts (times a b) (signed s n) m → n ≤ limit → m ≤ limit → q ≡ ratio (signed s n) m → Ok q ≡ product_answer a b
unfolding product_answer
product_ok a b q s n m parts small also e =
    ap Ok (e ∙ ratio_from (times a b) (signed s n) m parts) ∙ sym (cond-true (is_number (times a b)) _ _ (number_true (times a b) s n m parts small also))

pub product_past : (a b : Rational) → is_number (times a b) ≡ false → Err (record {}) ≡ product_answer a b
unfolding product_answer
product_past a b e = sym (cond-false (is_number (times a b)) _ _ e)

pub number_ok : (t q : Rational) (s : Bool) (n m : ℕ) → HasParts t (signed s n) m → n ≤ limit → m ≤ limit → q ≡ ratio (signed s n) m → Ok q ≡ number_answer t
unfolding number_answer
number_ok t q s n m parts small also e =
    ap Ok (e ∙ ratio_from t (signed s n) m parts) ∙ sym (cond-true (is_number t) _ _ (number_true t s n m parts small also))

pub number_past : (t : Rational) → is_number t ≡ false → Err fault.Past ≡ number_answer t
unfolding number_answer
number_past t e = sym (cond-false (is_number t) _ _ e)

-- a whole number within the limit is a number
whole_number : (z : ℤ) → unsigned_abs z ≤ limit → is_number (whole z) ≡ true
unfolding whole
whole_number z small =
    and_from (nat_le (unsigned_abs z) limit) (nat_le 1 limit) (le-leb (unsigned_abs z) limit small) refl

pub product_whole : (a b q : Rational) (z w : ℤ) → w ≡ z → unsigned_abs z ≤ limit → whole z ≡ times a b → q ≡ whole w → Ok q ≡ product_answer a b
unfolding product_answer
product_whole a b q z w same small e is =
    ap Ok (is ∙ ap whole same ∙ e) ∙ sym (cond-true (is_number (times a b)) _ _ (subst (λ (r : Rational). is_number r ≡ true) e (whole_number z small)))

-- ---- divisors

-- a number whose bits are 0 is 0
pub zero_from_bits : (d : ℤ) → SFits w128 d → of_z w128 d ≡ 0 → d ≡ pos 0
zero_from_bits d fits e = sym (to_z-of_z w128 d fits) ∙ ap (to_z w128) e

pub some_from_bits : (d : ℤ) → (of_z w128 d ≡ 0 → ⊥) → 0 < unsigned_abs d
some_from_bits (pos d) other = pos_of_ne-zero (λ e. other e)
some_from_bits (negsuc d) other = zero-lt-suc d

pub ratio_answer_none : (n d : ℤ) → d ≡ pos 0 → Err fault.DivZero ≡ ratio_answer n d
unfolding ratio_answer zero
ratio_answer_none n d e = sym (cond-true (same (whole d) zero) _ _ ((same_Decides (whole d) zero).1 (ap whole e)))

pub ratio_answer_some : (n d : ℤ) → 0 < unsigned_abs d → number_answer (over (whole n) (whole d)) ≡ ratio_answer n d
unfolding ratio_answer
ratio_answer_some n d some =
    sym (cond-false (same (whole d) zero) _ _ (false_from_ne_true (same (whole d) zero) (λ t. whole_different d some ((same_Decides (whole d) zero).0 t))))

pub zero_from_parts : (b : Rational) (n : ℤ) → n ≡ b.numer → unsigned_abs n ≤ limit → of_z w128 n ≡ 0 → b ≡ zero
zero_from_parts b n same small e =
    zero_from_numer b (sym same ∙ zero_from_bits n (fits_signed_from_abs w128 n (omega arith)) e)

pub some_from_parts : (b : Rational) (n : ℤ) → n ≡ b.numer → (of_z w128 n ≡ 0 → ⊥) → b ≢ zero
unfolding zero whole
some_from_parts b n same other e = other (ap (of_z w128) (same ∙ ap (λ q. q.numer) e))

pub quotient_answer_none : (a b : Rational) → b ≡ zero → Err fault.DivZero ≡ quotient_answer a b
unfolding quotient_answer
quotient_answer_none a b e = sym (cond-true (same b zero) _ _ ((same_Decides b zero).1 e))

pub quotient_answer_some : (a b : Rational) → b ≢ zero → number_answer (over a b) ≡ quotient_answer a b
unfolding quotient_answer
quotient_answer_some a b some =
    sym (cond-false (same b zero) _ _ (false_from_ne_true (same b zero) (λ t. some ((same_Decides b zero).0 t))))

ok_with_cause : (t : Bool) (q r : Rational) → let past : Result Rational Past = Err (record {}) in Ok q ≡ cond t (Ok r) past → Ok q ≡ cond t (Ok r) (Err fault.Past)
ok_with_cause true q r e = let same : q ≡ r = cc in ap Ok same
ok_with_cause false q r e = cc

past_with_cause : (t : Bool) (r : Rational) (p : Past) → Err p ≡ cond t (Ok r) (Err (record {})) → Err fault.Past ≡ cond t (Ok r) (Err fault.Past)
past_with_cause true r p e = cc
past_with_cause false r p e = refl

pub quotient_ok : (a b q : Rational) → b ≢ zero → Ok q ≡ product_answer a (reciprocal b) → Ok q ≡ quotient_answer a b
unfolding product_answer number_answer over
quotient_ok a b q some e =
    ok_with_cause (is_number (times a (reciprocal b))) q (times a (reciprocal b)) e ∙ quotient_answer_some a b some

pub quotient_past : (a b : Rational) (p : Past) → b ≢ zero → Err p ≡ product_answer a (reciprocal b) → Err fault.Past ≡ quotient_answer a b
unfolding product_answer number_answer over
quotient_past a b p some e =
    past_with_cause (is_number (times a (reciprocal b))) (times a (reciprocal b)) p e ∙ quotient_answer_some a b some
