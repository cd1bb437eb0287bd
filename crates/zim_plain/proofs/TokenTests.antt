-- A text is written as number tokens are where it is a field without a sign.
use Rattle.std.proofs.Common.{ℕ, suc, ◌≡◌, ◌==◌, ◌||◌, Bool, true, false, List, [], ◌∷◌, take, Option, Some, None, inl, inr, arith, refl, sym, ap, subst, ◌∙◌, ne_eqb}
use Rattle.std.specs.Prelude.{Result, Ok, Err, if◌then◌else◌, ◌≢◌}
use Rattle.std.specs.List.{position_or_len}
use Rattle.std.specs.Str.Parse.{without_leading_sign, starts_with_minus}
use Rattle.std.proofs.lemmas.Bool.{cases_eq, false_from_ne_true}
use Rattle.zim_rational.specs.Rational.{Rational}
use Rattle.zim_fraction.specs.declared.fault.Past.{Past}
use Rattle.zim_decimal.specs.Token.{is_number_token, is_mark, is_point, is_field}
use Rattle.zim_decimal.specs.Literal.{literal_answer, signed_answer, field_answer}
use Rattle.zim_decimal.proofs.TokenLaws.{whole_are_digits}
use Rattle.zim_plain.specs.Sides.{starts_with_sign}

-- what begins with a byte that is no digit, mark or point is no number token
plus_no_number : (rest : List ℕ) → is_number_token (43 ∷ rest) ≡ true → ⊥
plus_no_number rest h =
    let m : ℕ = position_or_len is_mark rest in
    let n : ℕ = position_or_len is_point (take m rest) in
    let no_digit : false ≡ true = whole_are_digits (43 ∷ rest) (suc m) (suc n) h (omega arith) (omega arith) in
    cc

minus_no_number : (rest : List ℕ) → is_number_token (45 ∷ rest) ≡ true → ⊥
minus_no_number rest h =
    let m : ℕ = position_or_len is_mark rest in
    let n : ℕ = position_or_len is_point (take m rest) in
    let no_digit : false ≡ true = whole_are_digits (45 ∷ rest) (suc m) (suc n) h (omega arith) (omega arith) in
    cc

pub sign_no_number : (text : List ℕ) → starts_with_sign text ≡ true → false ≡ is_number_token text
sign_no_number [] h = cc
sign_no_number (first ∷ rest) h =
    sym (false_from_ne_true (is_number_token (first ∷ rest)) (λ t.
    elim (cases_eq first 43) [
      | inl plus ↦ plus_no_number rest (subst (λ (b : ℕ). is_number_token (b ∷ rest) ≡ true) plus t)
      | inr other ↦
          elim (cases_eq first 45) [
            | inl minus ↦ minus_no_number rest (subst (λ (b : ℕ). is_number_token (b ∷ rest) ≡ true) minus t)
            | inr neither ↦
                let not_plus : (first == 43) ≡ false = ne_eqb first 43 other in
                let not_minus : (first == 45) ≡ false = ne_eqb first 45 neither in
                cc
          ]
    ]))

-- what begins with no sign has none to be left out
or_false : (a b : Bool) → (a || b) ≡ false → (a ≡ false) × (b ≡ false)
or_false true b e = cc
or_false false b e = (refl, e)

no_sign : (text : List ℕ) → starts_with_sign text ≡ false → without_leading_sign text ≡ text
no_sign [] h = refl
no_sign (first ∷ rest) h =
    let both = or_false (first == 43) (first == 45) h in
    rw (both.1, both.0) refl

field_is_number : (text : List ℕ) → starts_with_sign text ≡ false → is_field text ≡ is_number_token text
unfolding is_field
field_is_number text h = ap is_number_token (no_sign text h)

read_by : (t m : Bool) (r : Result Rational Past) → (if t then signed_answer m r else Ok None) ≡ Ok None → t ≡ false
read_by true m (Ok q) e = cc
read_by true m (Err p) e = cc
read_by false m r e = refl

unread_by : (t m : Bool) (r : Result Rational Past) (o : Result (Option Rational) Past) → o ≡ (if t then signed_answer m r else Ok None) → o ≢ Ok None → t ≡ true
unread_by true m r o e other = refl
unread_by false m r o e other = absurd (other e)

pub no_field : (text : List ℕ) → starts_with_sign text ≡ false → Ok None ≡ field_answer text → false ≡ is_number_token text
unfolding field_answer
no_field text h e = sym (sym (field_is_number text h) ∙ read_by (is_field text) (starts_with_minus text) (literal_answer (without_leading_sign text)) (sym e))

pub some_field : (text : List ℕ) (q : Rational) → starts_with_sign text ≡ false → Ok (Some q) ≡ field_answer text → true ≡ is_number_token text
unfolding field_answer
some_field text q h e = sym (sym (field_is_number text h) ∙ unread_by (is_field text) (starts_with_minus text) (literal_answer (without_leading_sign text)) (Ok (Some q)) e (λ none. cc))

pub past_field : (text : List ℕ) (p : Past) → starts_with_sign text ≡ false → Err p ≡ field_answer text → true ≡ is_number_token text
unfolding field_answer
past_field text p h e = sym (sym (field_is_number text h) ∙ unread_by (is_field text) (starts_with_minus text) (literal_answer (without_leading_sign text)) (Err p) e (λ none. cc))
