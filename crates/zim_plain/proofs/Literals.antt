-- The numbers of literals and of coefficients, and their faults.
use Rattle.std.proofs.Common.{ℕ, suc, ℤ, pos, negsuc, ◌≡◌, ◌≢◌, ◌<◌, ◌^◌, ◌==◌, ◌&&◌, Bool, true, false, cond, IsTrue, nat_le, Option, Some, None, arith, refl, sym, ap, subst, ◌∙◌, eq-eqb, ne_eqb, inl, inr, ◌↔◌}
use Rattle.std.specs.Prelude.{if◌then◌else◌, Result, Ok, Err}
use Rattle.std.proofs.lemmas.Bool.{cases_eq, cond-true, cond-false}
use Rattle.zim_fault.specs.declared.kinds.Kind.TheVariants.{Past}
use Rattle.zim_rational.specs.Rational as rational
use Rattle.zim_rational.specs.Rational.{Rational, whole, one, times, over, reciprocal, same}
use Rattle.zim_rational.proofs.Ring.{zero_times}
use Rattle.zim_rational.proofs.Whole.{times_cancel, over_times, same_Decides}
use Rattle.zim_rational.proofs.Parts.{whole_different}
use Rattle.zim_fraction.specs.Limit.{limit, is_number}
use Rattle.zim_fraction.specs.declared.fault.Past as fraction
use Rattle.zim_fraction.specs.declared.fault.NumFault.{NumFault}
use Rattle.zim_fraction.specs.declared.fault.NumFault.TheVariants as num
use Rattle.zim_fraction.specs.Answers.{number_answer, quotient_answer}
use Rattle.zim_fraction.proofs.AnswerLaws.{quotient_answer_some}
use Rattle.zim_decimal.specs.Literal.{digits_of, significand, power_of_ten, scaled, value_answer, is_near, scaled_answer, literal_answer}
use Rattle.zim_decimal.proofs.DigitLaws.{ten_at_least}
use Rattle.zim_plain.specs.Statements.{Literal, Divisor, Coefficient, Item, Constant, Multiple}
use Rattle.zim_plain.specs.Meaning.{literal_number, coefficient_number, taken_with_sign}
use Rattle.zim_plain.specs.Faults.{fault_at, literal_fault, divisor_fault, coefficient_fault, item_fault, amount}
use Rattle.zim_plain.proofs.Limits.{zero_is_number, one_is_number, negate_is_number}
use Rattle.zim_plain.proofs.Faulting.{first_of_none, first_of_second, past_none, past_some}

-- ---- digits times a power of ten

ten_some : (k : ℕ) → 0 < 10 ^ k
ten_some k = ten_at_least 0 k (omega arith)

whole_some : (n : ℕ) → 0 < n → whole (pos n) ≢ rational.zero
whole_some n some = whole_different (pos n) some

nothing_scaled : (q : ℕ) (e : ℤ) → q ≡ 0 → scaled q e ≡ rational.zero
unfolding scaled over rational.zero
nothing_scaled q (pos k) e = ap (λ (n : ℕ). times (whole (pos n)) (whole (pos (10 ^ k)))) e ∙ zero_times (whole (pos (10 ^ k)))
nothing_scaled q (negsuc k) e =
    ap (λ (n : ℕ). times (whole (pos n)) (reciprocal (whole (pos (10 ^ suc k))))) e ∙ zero_times (reciprocal (whole (pos (10 ^ suc k))))

some_scaled : (q : ℕ) (e : ℤ) → q ≢ 0 → scaled q e ≢ rational.zero
unfolding scaled
some_scaled q (pos k) some none =
    whole_some q (omega arith)
    (times_cancel (whole (pos q)) rational.zero (whole (pos (10 ^ k))) (whole_some (10 ^ k) (ten_some k)) (none ∙ sym (zero_times (whole (pos (10 ^ k))))))
some_scaled q (negsuc k) some none =
    let ten : Rational = whole (pos (10 ^ suc k)) in
    whole_some q (omega arith)
    (sym (over_times (whole (pos q)) ten (whole_some (10 ^ suc k) (ten_some (suc k)))) ∙ ap (λ (v : Rational). times v ten) none ∙ zero_times ten)

value_by : (b : Bool) (v q : Rational) (p : fraction.Past) → cond b (Ok v) (Err p) ≡ Ok q → (q ≡ v) × IsTrue b
value_by true v q p e = let same : q ≡ v = cc in (same, refl)
value_by false v q p e = cc

near_by : (b : Bool) (v q : Rational) → (if b then value_answer v else Err (record {})) ≡ Ok q → (q ≡ v) × IsTrue (is_number v)
unfolding value_answer
near_by true v q e = value_by (is_number v) v q (record {}) e
near_by false v q e = cc

-- the answer is the number, and this is within the limit
scaled_ok : (q : ℕ) (e : ℤ) (v : Rational) → scaled_answer q e ≡ Ok v → (v ≡ scaled q e) × IsTrue (is_number v)
unfolding scaled_answer
scaled_ok q e v is =
    elim (cases_eq q 0) [
      | inl none ↦
          let zero : Ok rational.zero ≡ Ok v = sym (cond-true (q == 0) _ _ (eq-eqb q 0 none)) ∙ is in
          let same : v ≡ rational.zero = cc in
          (same ∙ sym (nothing_scaled q e none), subst (λ (w : Rational). IsTrue (is_number w)) (sym same) zero_is_number)
      | inr some ↦
          let both = near_by (nat_le q limit && is_near e) (scaled q e) v (sym (cond-false (q == 0) _ _ (ne_eqb q 0 some)) ∙ is) in
          (both.0, subst (λ (w : Rational). IsTrue (is_number w)) (sym both.0) both.1)
    ]

-- what is past isn't 0
scaled_past : (q : ℕ) (e : ℤ) (p : fraction.Past) → scaled_answer q e ≡ Err p → scaled q e ≢ rational.zero
unfolding scaled_answer
scaled_past q e p is none =
    elim (cases_eq q 0) [
      | inl zero ↦
          let no : Ok rational.zero ≡ Err p = sym (cond-true (q == 0) _ _ (eq-eqb q 0 zero)) ∙ is in cc
      | inr some ↦ some_scaled q e some none
    ]

pub literal_ok : (literal : Literal) (v : Rational) → Ok v ≡ literal_answer literal.text → (v ≡ literal_number literal) × IsTrue (is_number v)
unfolding literal_answer
literal_ok literal v is = scaled_ok (significand (digits_of literal.text)) (power_of_ten literal.text) v (sym is)

pub literal_past : (literal : Literal) (p : fraction.Past) → Err p ≡ literal_answer literal.text → literal_number literal ≢ rational.zero
unfolding literal_answer
literal_past literal p is = scaled_past (significand (digits_of literal.text)) (power_of_ten literal.text) p (sym is)

-- ---- faults

pub literal_faultless : (literal : Literal) (v : Rational) → Ok v ≡ literal_answer literal.text → literal_fault literal ≡ None
literal_faultless literal v is = rw (← is) refl

pub literal_faulty : (literal : Literal) (p : fraction.Past) → Err p ≡ literal_answer literal.text → literal_fault literal ≡ Some (fault_at Past literal.place)
literal_faulty literal p is = rw (← is) refl

pub number_of_literal : (literal : Literal) → literal_fault literal ≡ None → IsTrue (is_number (literal_number literal))
number_of_literal literal none = by (literal_answer literal.text) refl
  where
    by : (r : Result Rational fraction.Past) → literal_answer literal.text ≡ r → IsTrue (is_number (literal_number literal))
    by (Ok v) is = let both = literal_ok literal v (sym is) in subst (λ (w : Rational). IsTrue (is_number w)) both.0 both.1
    by (Err p) is = let no : Some (fault_at Past literal.place) ≡ None = sym (literal_faulty literal p (sym is)) ∙ none in cc

pub number_of_coefficient : (c : Coefficient) → coefficient_fault c ≡ None → IsTrue (is_number (coefficient_number c))
number_of_coefficient c none = by c.divisor ((first_of_none _ _ none).1)
  where
    by : (d : Option Divisor) → divisor_fault (literal_number c.number) d ≡ None → IsTrue (is_number (coefficient_number (record { number = c.number; divisor = d })))
    by None e = number_of_literal c.number ((first_of_none _ _ none).0)
    by (Some d) e = past_none _ _ ((first_of_none _ _ e).1)

signed_number : (negative : Bool) (q : Rational) → IsTrue (is_number q) → IsTrue (is_number (taken_with_sign negative q))
signed_number true q h = negate_is_number q h
signed_number false q h = h

pub number_of_amount : (negative : Bool) (item : Item) → item_fault item ≡ None → IsTrue (is_number (amount (negative, item)))
number_of_amount negative (Constant c) none = signed_number negative (coefficient_number c) (number_of_coefficient c none)
number_of_amount negative (Multiple None place name) none = signed_number negative one one_is_number
number_of_amount negative (Multiple (Some factor) place name) none = signed_number negative (coefficient_number factor.coefficient) (number_of_coefficient factor.coefficient none)

-- ---- quotients

past_by : (t : Bool) (q : Rational) (f : NumFault) → Err f ≡ cond t (Ok q) (Err num.Past) → ¬ IsTrue t
past_by true q f e = cc
past_by false q f e = λ t. cc

-- a quotient that there is none of, though the divisor isn't 0, is past
pub quotient_past : (a b : Rational) (f : NumFault) → b ≢ rational.zero → Err f ≡ quotient_answer a b → ¬ IsTrue (is_number (over a b))
unfolding number_answer
quotient_past a b f some e = past_by (is_number (over a b)) (over a b) f (e ∙ sym (quotient_answer_some a b some))

-- the fault of a coefficient at its slash
pub divisor_past : (a b : Rational) (f : NumFault) (d : Divisor) → b ≡ literal_number d.literal → literal_number d.literal ≢ rational.zero → literal_fault d.literal ≡ None → Err f ≡ quotient_answer a b → divisor_fault a (Some d) ≡ Some (fault_at Past d.slash)
divisor_past a b f d is some none e =
    let past = quotient_past a (literal_number d.literal) f some (e ∙ ap (quotient_answer a) is) in
    first_of_second _ _ _ none (past_some _ d.slash past)

-- ---- a literal that is 0

pub zero_ok : (literal : Literal) (v z : Rational) (b : Bool) → Ok v ≡ literal_answer literal.text → z ≡ rational.zero → b ≡ same v z → IsTrue b ↔ (literal_number literal ≡ rational.zero)
zero_ok literal v z b is zero e =
    let number = (literal_ok literal v is).0 in
    let decides = same_Decides v z in (
      λ t. sym number ∙ decides.0 (sym e ∙ t) ∙ zero,
      λ none. e ∙ decides.1 (number ∙ none ∙ sym zero),
    )
