-- The answers that the parts of a literal give.
use Rattle.std.proofs.Common.{ℕ, ℤ, pos, negsuc, neg_ℤ, ◌≡◌, ◌≢◌, ◌<◌, ◌≤◌, ◌+◌, ◌-◌, ◌*◌, ◌^◌, ◌++◌, ◌==◌, ◌&&◌, ◌+ℤ◌, ◌-ℤ◌, ◌≤ℤ◌, Bool, true, false, cond, List, length, take, drop, get_or, Option, Some, None, Result, Ok, Err, min, unsigned_abs, inl, inr, arith, refl, sym, ap, ap₂, subst, ◌∙◌, nat_le, eq-eqb, ne_eqb, le-leb, SFits, to_z, of_z}
use Rattle.std.specs.Prelude.{if◌then◌else◌, int_le, T}
use Rattle.std.specs.Int.{w128}
use Rattle.std.specs.Char.{digit_value, is_ascii_digit}
use Rattle.std.specs.Str.Parse.{digits_value, starts_with_minus, without_leading_sign, signed_digits_value}
use Rattle.std.proofs.lemmas.Bool.{cond-true, cond-false, and_parts, and_from, and_left, and_right, false_from_ne_true, lt-leb, cases_lt}
use Rattle.std.proofs.lemmas.Int.{ints, fits_signed_from_abs, to_z_pos, to_z-of_z}
use Rattle.std.specs.Int.Signed.{lt_z, le_z_yes}
use borrow.Author.Tests.{ltb-true, ltb-false}
use Rattle.std.proofs.lemmas.Int.Digits.{digits_value_more}
use Rattle.zim_rational.specs.Rational.{Rational, whole, times, over}
use Rattle.zim_rational.specs.Rational as exact
use Rattle.zim_rational.proofs.Parts.{whole_different}
use Rattle.zim_fraction.specs.Limit.{limit, is_number}
use Rattle.zim_fraction.specs.Answers.{product_answer, quotient_answer, number_answer}
use Rattle.zim_fraction.specs.declared.fault.NumFault.{NumFault}
use Rattle.zim_fraction.specs.declared.fault.NumFault.TheVariants as fault
use Rattle.zim_fraction.specs.declared.fault.Past.{Past}
use Rattle.zim_fraction.proofs.AnswerLaws.{quotient_answer_some}
use Rattle.zim_rational.specs.Rational.{abs_neg}
use Rattle.std.specs.List.{position_or_len}
use Rattle.zim_decimal.specs.Token.{is_number_token as is_token, is_mark, is_point, decimal_digits, exponent_text, is_field}
use Rattle.zim_decimal.specs.Literal.{value_answer, scaled, is_near, scaled_answer, significand, last_zeros, digits_of, power_of_ten, literal_answer, signed_answer, field_answer}
use Rattle.zim_decimal.specs.Digits.{IsCounted}
use Rattle.zim_decimal.specs.Exponent.{cap, capped, capped_exponent}
use Rattle.zim_decimal.proofs.DigitLaws.{ten_at_least, digit_value_of, some_within, none_within}

pub capped_next : (ds : List ℕ) (i size d : ℕ) → i < length ds → d ≡ get_or ds i 0 → is_ascii_digit d ≡ true → size ≡ capped (take i ds) → min (size * 10 + (d - 48)) cap ≡ capped (take (i + 1) ds)
capped_next ds i size d room is digit e =
    let next = digits_value_more 10 ds i room in
    let byte : digit_value (get_or ds i 0) ≡ d - 48 = ap digit_value (sym is) ∙ digit_value_of d digit in
    omega arith

pub ten_fits : (k : ℕ) → k ≤ 38 → SFits w128 (pos (10 ^ k))
ten_fits k h = let small = ten_at_least k 38 h in fits_signed_from_abs w128 (pos (10 ^ k)) (omega arith)

ok_past : (t : Bool) (q r : Rational) → let none : Result Rational NumFault = Err fault.Past in Ok q ≡ cond t (Ok r) none → let past : Result Rational Past = Err (record {}) in Ok q ≡ cond t (Ok r) past
ok_past true q r e = let same : q ≡ r = cc in ap Ok same
ok_past false q r e = cc

err_past : (t : Bool) (f : NumFault) (r : Rational) → Err f ≡ cond t (Ok r) (Err fault.Past) → let past : Result Rational Past = Err (record {}) in past ≡ cond t (Ok r) past
err_past true f r e = cc
err_past false f r e = refl

pub quotient_ok : (a b q : Rational) → b ≢ exact.zero → Ok q ≡ quotient_answer a b → Ok q ≡ value_answer (over a b)
unfolding value_answer number_answer
quotient_ok a b q some e = ok_past (is_number (over a b)) q (over a b) (e ∙ sym (quotient_answer_some a b some))

pub quotient_past : (a b : Rational) (f : NumFault) → b ≢ exact.zero → Err f ≡ quotient_answer a b → Err (record {}) ≡ value_answer (over a b)
unfolding value_answer number_answer
quotient_past a b f some e = err_past (is_number (over a b)) f (over a b) (e ∙ sym (quotient_answer_some a b some))

pub product_value : (a b : Rational) (r : Result Rational Past) → r ≡ product_answer a b → r ≡ value_answer (times a b)
unfolding value_answer product_answer
product_value a b r e = e

pub ten_different : (b : Rational) (k : ℕ) → b ≡ whole (pos (10 ^ k)) → b ≢ exact.zero
ten_different b k e none =
    whole_different (pos (10 ^ k)) (ten_at_least 0 k (omega arith)) (sym e ∙ none)

pub scaled_zero : (q : ℕ) (e : ℤ) (z : Rational) → q ≡ 0 → z ≡ exact.zero → Ok z ≡ scaled_answer q e
unfolding scaled_answer
scaled_zero q e z none is = ap Ok is ∙ sym (cond-true (q == 0) _ _ (eq-eqb q 0 none))

pub scaled_some : (q : ℕ) (e : ℤ) → q ≢ 0 → q ≤ limit → is_near e ≡ true → value_answer (scaled q e) ≡ scaled_answer q e
unfolding scaled_answer
scaled_some q e some small near =
    sym (cond-true (nat_le q limit && is_near e) _ _ (and_from (nat_le q limit) (is_near e) (le-leb q limit small) near))
    ∙ sym (cond-false (q == 0) _ _ (ne_eqb q 0 some))

pub scaled_past : (q : ℕ) (e : ℤ) → q ≢ 0 → (nat_le q limit && is_near e) ≡ false → Err (record {}) ≡ scaled_answer q e
unfolding scaled_answer
scaled_past q e some far =
    sym (cond-false (nat_le q limit && is_near e) _ _ far) ∙ sym (cond-false (q == 0) _ _ (ne_eqb q 0 some))

-- ---- the powers of ten

far_low : (e : ℤ) → lt_z e (negsuc 37) ≡ true → is_near e ≡ false
far_low (pos a) h = cc
far_low (negsuc a) h = ap (λ b. b && true) (lt-leb a 37 (ltb-true 37 a h))

far_high : (e : ℤ) → lt_z (pos 38) e ≡ true → is_near e ≡ false
far_high (pos a) h = lt-leb a 38 (ltb-true 38 a h)
far_high (negsuc a) h = cc

near_between : (e : ℤ) → lt_z e (negsuc 37) ≡ false → lt_z (pos 38) e ≡ false → is_near e ≡ true
near_between (pos a) low high = le-leb a 38 (ltb-false 38 a high)
near_between (negsuc a) low high = ap (λ b. b && true) (le-leb a 37 (ltb-false 37 a low))

pub scaled_low : (q : ℕ) (e x : ℤ) → x ≡ e → q ≢ 0 → lt_z x (negsuc 37) ≡ true → Err (record {}) ≡ scaled_answer q e
scaled_low q e x same some low =
    scaled_past q e some (and_right (nat_le q limit) (is_near e) (far_low e (sym (ap (λ y. lt_z y (negsuc 37)) same) ∙ low)))

pub scaled_high : (q : ℕ) (e x : ℤ) → x ≡ e → q ≢ 0 → lt_z (pos 38) x ≡ true → Err (record {}) ≡ scaled_answer q e
scaled_high q e x same some high =
    scaled_past q e some (and_right (nat_le q limit) (is_near e) (far_high e (sym (ap (λ y. lt_z (pos 38) y) same) ∙ high)))

whole_passed : (q : ℕ) (a : Rational) → q ≤ limit → a ≡ whole (to_z w128 q) → a ≡ whole (pos q)
whole_passed q a small e = e ∙ ap whole (to_z_pos w128 q (omega arith))

down_is : (q k : ℕ) (e : ℤ) → lt_z e (pos 0) ≡ true → k ≡ unsigned_abs e → over (whole (pos q)) (whole (pos (10 ^ k))) ≡ scaled q e
unfolding scaled
down_is q k (pos a) h size = let below = ltb-true a 0 h in absurd (omega arith)
down_is q k (negsuc a) h size = ap (λ n. over (whole (pos q)) (whole (pos (10 ^ n)))) size

up_is : (q k : ℕ) (e : ℤ) → lt_z e (pos 0) ≡ false → k ≡ unsigned_abs e → times (whole (pos q)) (whole (pos (10 ^ k))) ≡ scaled q e
unfolding scaled
up_is q k (pos a) h size = ap (λ n. times (whole (pos q)) (whole (pos (10 ^ n)))) size
up_is q k (negsuc a) h size = cc

pub scaled_down : (q k : ℕ) (e x : ℤ) (a b : Rational) (r : Result Rational Past) → x ≡ e → q ≢ 0 → q ≤ limit → lt_z x (negsuc 37) ≡ false → lt_z (pos 38) x ≡ false → lt_z x (pos 0) ≡ true → k ≡ unsigned_abs x → a ≡ whole (to_z w128 q) → b ≡ whole (pos (10 ^ k)) → r ≡ value_answer (over a b) → r ≡ scaled_answer q e
scaled_down q k e x a b r same some small low high negative size first second is =
    is ∙ ap₂ (λ (y z : Rational). value_answer (over y z)) (whole_passed q a small first) second
    ∙ ap value_answer (down_is q k x negative size)
    ∙ ap (λ y. value_answer (scaled q y)) same
    ∙ scaled_some q e some small (ap is_near (sym same) ∙ near_between x low high)

pub scaled_up : (q k : ℕ) (e x : ℤ) (a b : Rational) (r : Result Rational Past) → x ≡ e → q ≢ 0 → q ≤ limit → lt_z x (negsuc 37) ≡ false → lt_z (pos 38) x ≡ false → lt_z x (pos 0) ≡ false → k ≡ unsigned_abs x → a ≡ whole (to_z w128 q) → b ≡ whole (pos (10 ^ k)) → r ≡ value_answer (times a b) → r ≡ scaled_answer q e
scaled_up q k e x a b r same some small low high negative size first second is =
    is ∙ ap₂ (λ (y z : Rational). value_answer (times y z)) (whole_passed q a small first) second
    ∙ ap value_answer (up_is q k x negative size)
    ∙ ap (λ y. value_answer (scaled q y)) same
    ∙ scaled_some q e some small (ap is_near (sym same) ∙ near_between x low high)

-- ---- exponents that are far

at_most : (a b : ℤ) → int_le a b ≡ true → a ≤ℤ b
at_most a b t = le_z_yes (subst (λ (c : Bool). T c) (sym t) tt)

far_answer : (q : ℕ) (e : ℤ) → is_near e ≡ false → scaled_answer q e ≡ (if q == 0 then Ok exact.zero else Err (record {}))
unfolding scaled_answer
far_answer q e far =
    ap (λ t. if q == 0 then Ok exact.zero else (if t then value_answer (scaled q e) else Err (record {}))) (and_right (nat_le q limit) (is_near e) far)

above : (v z l : ℕ) → cap ≤ v → z < 2 ^ 64 → l < 2 ^ 64 → is_near (pos v +ℤ pos z -ℤ pos l) ≡ false
above v z l large short also =
    false_from_ne_true
    (is_near (pos v +ℤ pos z -ℤ pos l))
    (λ t.
    let high : (pos v +ℤ pos z -ℤ pos l) ≤ℤ pos 38 = at_most _ _ ((and_parts (int_le (negsuc 37) (pos v +ℤ pos z -ℤ pos l)) (int_le (pos v +ℤ pos z -ℤ pos l) (pos 38)) t).1) in
    omega (arith, ints))

under : (v z l : ℕ) → cap ≤ v → z < 2 ^ 64 → l < 2 ^ 64 → is_near (neg_ℤ (pos v) +ℤ pos z -ℤ pos l) ≡ false
under v z l large short also =
    false_from_ne_true
    (is_near (neg_ℤ (pos v) +ℤ pos z -ℤ pos l))
    (λ t.
    let low : negsuc 37 ≤ℤ (neg_ℤ (pos v) +ℤ pos z -ℤ pos l) = at_most _ _ ((and_parts (int_le (negsuc 37) (neg_ℤ (pos v) +ℤ pos z -ℤ pos l)) (int_le (neg_ℤ (pos v) +ℤ pos z -ℤ pos l) (pos 38)) t).0) in
    omega (arith, ints))

far : (b : Bool) (v z l : ℕ) → cap ≤ v → z < 2 ^ 64 → l < 2 ^ 64 → is_near (cond b (neg_ℤ (pos v)) (pos v) +ℤ pos z -ℤ pos l) ≡ false
far true v z l large short also = under v z l large short also
far false v z l large short also = above v z l large short also

-- an exponent that passes the cap answers as the cap does
agree : (b : Bool) (q v z l : ℕ) → z < 2 ^ 64 → l < 2 ^ 64 → scaled_answer q (cond b (neg_ℤ (pos (min v cap))) (pos (min v cap)) +ℤ pos z -ℤ pos l) ≡ scaled_answer q (cond b (neg_ℤ (pos v)) (pos v) +ℤ pos z -ℤ pos l)
agree b q v z l short also =
    elim (cases_lt v cap) [
      | inl small ↦
          let same : min v cap ≡ v = omega arith in
          ap (λ n. scaled_answer q (cond b (neg_ℤ (pos n)) (pos n) +ℤ pos z -ℤ pos l)) same
      | inr large ↦
          far_answer q _ (far b (min v cap) z l (omega arith) short also) ∙ sym (far_answer q _ (far b v z l large short also))
    ]

capped_small : (b : Bool) (n : ℕ) → n ≤ cap → unsigned_abs (cond b (neg_ℤ (pos n)) (pos n)) ≤ cap
capped_small true n h = subst (λ (k : ℕ). k ≤ cap) (sym (abs_neg n)) h
capped_small false n h = h

exponent_small : (e : ℤ) (x : List ℕ) → e ≡ capped_exponent x → unsigned_abs e ≤ cap
exponent_small e x is =
    subst
    (λ (y : ℤ). unsigned_abs y ≤ cap)
    (sym is)
    (capped_small (starts_with_minus x) (capped (without_leading_sign x)) (omega arith))

-- the power of ten that is computed comes back
power_passed : (e : ℤ) (z l : ℕ) → unsigned_abs e ≤ cap → z < 2 ^ 64 → l < 2 ^ 64 → to_z w128 (of_z w128 (to_z w128 (of_z w128 (to_z w128 (of_z w128 e) +ℤ to_z w128 z)) -ℤ to_z w128 l)) ≡ (e +ℤ pos z -ℤ pos l)
power_passed e z l small short also =
    let first : SFits w128 e = fits_signed_from_abs w128 e (omega arith) in
    let second : SFits w128 (e +ℤ pos z) = omega (arith, ints) in
    let third : SFits w128 (e +ℤ pos z -ℤ pos l) = omega (arith, ints) in
    rw
    (to_z-of_z w128 e first, to_z_pos w128 z (omega arith), to_z-of_z w128 (e +ℤ pos z) second, to_z_pos w128 l (omega arith), to_z-of_z w128 (e +ℤ pos z -ℤ pos l) third)
    refl

-- ---- the parts of a token

digits_are : (text b : List ℕ) (m n : ℕ) → m ≡ position_or_len is_mark text → n ≡ position_or_len is_point (take m text) → b ≡ drop 1 (drop n (take m text)) → (take n (take m text) ++ b) ≡ digits_of text
digits_are text b m n mark point behind = rw (behind, point, mark) refl

decimals_are : (text b : List ℕ) (m n : ℕ) → m ≡ position_or_len is_mark text → n ≡ position_or_len is_point (take m text) → b ≡ drop 1 (drop n (take m text)) → b ≡ decimal_digits text
decimals_are text b m n mark point behind = rw (behind, point, mark) refl

exponent_is : (text x : List ℕ) (m : ℕ) → m ≡ position_or_len is_mark text → x ≡ drop 1 (drop m text) → x ≡ exponent_text text
exponent_is text x m mark e = rw (e, mark) refl

pub literal_some : (text b x : List ℕ) (m n q z : ℕ) (v : Option ℕ) (e : ℤ) (r : Result Rational Past) → m ≡ position_or_len is_mark text → n ≡ position_or_len is_point (take m text) → b ≡ drop 1 (drop n (take m text)) → x ≡ drop 1 (drop m text) → IsCounted (take n (take m text) ++ b) v z → v ≡ Some q → e ≡ capped_exponent x → z < 2 ^ 64 → length b < 2 ^ 64 → r ≡ scaled_answer q (to_z w128 (of_z w128 (to_z w128 (of_z w128 (to_z w128 (of_z w128 e) +ℤ to_z w128 z)) -ℤ to_z w128 (length b)))) → r ≡ literal_answer text
unfolding literal_answer
literal_some text b x m n q z v e r mark point behind exponent counted some is short also answer =
    let ds : List ℕ = take n (take m text) ++ b in
    answer
    ∙ ap (λ y. scaled_answer q y) (power_passed e z (length b) (exponent_small e x is) short also ∙ ap (λ y. y +ℤ pos z -ℤ pos (length b)) is)
    ∙ agree (starts_with_minus x) q (digits_value 10 (without_leading_sign x)) z (length b) short also
    ∙ ap₂ (λ (s k : ℕ). scaled_answer s (signed_digits_value 10 x +ℤ pos k -ℤ pos (length b))) (some_within (significand ds) q (sym some ∙ counted.value_is)) counted.zeros_are
    ∙ ap (λ y. scaled_answer (significand y) (signed_digits_value 10 x +ℤ pos (last_zeros y) -ℤ pos (length b))) (digits_are text b m n mark point behind)
    ∙ ap (λ y. scaled_answer (significand (digits_of text)) (signed_digits_value 10 y +ℤ pos (last_zeros (digits_of text)) -ℤ pos (length b))) (exponent_is text x m mark exponent)
    ∙ ap (λ y. scaled_answer (significand (digits_of text)) (signed_digits_value 10 (exponent_text text) +ℤ pos (last_zeros (digits_of text)) -ℤ pos (length y))) (decimals_are text b m n mark point behind)

large_past : (q : ℕ) (e : ℤ) → limit < q → Err (record {}) ≡ scaled_answer q e
large_past q e large =
    let some : q ≢ 0 = omega arith in
    scaled_past q e some (and_left (nat_le q limit) (is_near e) (lt-leb q limit large))

pub literal_none : (text b : List ℕ) (m n z : ℕ) (v : Option ℕ) → m ≡ position_or_len is_mark text → n ≡ position_or_len is_point (take m text) → b ≡ drop 1 (drop n (take m text)) → IsCounted (take n (take m text) ++ b) v z → v ≡ None → Err (record {}) ≡ literal_answer text
unfolding literal_answer
literal_none text b m n z v mark point behind counted none =
    large_past
    (significand (digits_of text))
    (power_of_ten text)
    (subst
    (λ (ds : List ℕ). limit < significand ds)
    (digits_are text b m n mark point behind)
    (none_within (significand (take n (take m text) ++ b)) (sym none ∙ counted.value_is)))

-- ---- fields

pub field_none : (text s : List ℕ) (t : Bool) → s ≡ without_leading_sign text → t ≡ is_token s → t ≡ false → Ok None ≡ field_answer text
unfolding field_answer is_field
field_none text s t rest test f =
    sym (cond-false (is_token (without_leading_sign text)) _ _ (ap is_token (sym rest) ∙ sym test ∙ f))

pub field_some : (text s : List ℕ) (t m : Bool) (q w : Rational) → s ≡ without_leading_sign text → t ≡ is_token s → t ≡ true → Ok q ≡ literal_answer s → m ≡ starts_with_minus text → w ≡ (if m then exact.negate q else q) → Ok (Some w) ≡ field_answer text
unfolding field_answer is_field
field_some text s t m q w rest test h answer minus is =
    ap (λ y. Ok (Some y)) is
    ∙ ap₂ signed_answer minus (answer ∙ ap literal_answer rest)
    ∙ sym (cond-true (is_token (without_leading_sign text)) _ _ (ap is_token (sym rest) ∙ sym test ∙ h))

pub field_past : (text s : List ℕ) (t : Bool) (p : Past) → s ≡ without_leading_sign text → t ≡ is_token s → t ≡ true → Err p ≡ literal_answer s → Err (record {}) ≡ field_answer text
unfolding field_answer is_field
field_past text s t p rest test h answer =
    ap (signed_answer (starts_with_minus text)) (answer ∙ ap literal_answer rest)
    ∙ sym (cond-true (is_token (without_leading_sign text)) _ _ (ap is_token (sym rest) ∙ sym test ∙ h))
