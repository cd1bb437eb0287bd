-- The decimal text of a short number reads back as the number.
use Rattle.std.proofs.Common.{ℕ, zero, suc, ℤ, pos, negsuc, ◌≡◌, ◌<◌, ◌≤◌, ◌+◌, ◌*◌, ◌/◌, ◌%◌, ◌^◌, ◌++◌, ◌==◌, Bool, true, false, cond, not, IsTrue, List, [], ◌∷◌, length, Some, unsigned_abs, decimal, inl, inr, arith, refl, sym, ap, subst, ◌∙◌, append-nil, eqb-true, pow-suc, le-ltb}
use Rattle.std.specs.Prelude.{int_lt, option_map}
use Rattle.std.specs.Int.{◌∣◌}
use Rattle.std.specs.Char.{is_ascii_digit, digit_value}
use Rattle.std.specs.List.{list_all, position_or_len}
use Rattle.std.specs.Str.Parse.{digits_value, digits_value_after, starts_with_minus, AllDigits}
use Rattle.std.proofs.lemmas.Bool.{and_from, and_parts, cases_eq}
use Rattle.std.proofs.lemmas.Bool.Decides.{nat_tests}
use Rattle.std.proofs.lemmas.Fmt.{decimal_is_IsNumeral_wide}
use Rattle.std.proofs.lemmas.Nat.Gcd.{dvd_trans, dvd_of_mod-eq-zero, le_of_dvd}
use Rattle.std.proofs.lemmas.Str.{digit_value_digit}
use Rattle.std.proofs.Math.Nat.{dvd-sub, div-lt_iff_lt-mul, div-le_self, one-le-pow}
use Rattle.std.proofs.Math.Seq.{take-append_seam, drop-append_seam, take-length, drop-length}
use native.Mathlib.Nat.{dvd-mul_left, dvd-mul_right, pow-zero, div-add-mod}
use Rattle.zim_rational.specs.Rational.{Rational, is_lowest, ratio, negate, ratio_of_lowest, ratio_parts}
use Rattle.zim_rational.proofs.Whole.{same_ratios}
use Rattle.zim_rational.proofs.Fraction.{denom-pos}
use Rattle.zim_fraction.specs.Limit.{limit}
use Rattle.zim_decimal.specs.Short.{scale, is_short, decimals, point_and, whole_text, decimal_text, short_text}
use Rattle.zim_decimal.specs.Token.{are_digits, is_point}
use Rattle.zim_decimal.specs.Reading.{number_without_sign, number_of_text}
use Rattle.zim_decimal.proofs.TokenLaws.{all_digits}
use Rattle.zim_decimal.proofs.DecimalLemmas.{decimals_done, decimals_next}

-- ---- digits

digit_below : (d r : ℕ) → 0 < d → r < d → r * 10 / d < 10
digit_below d r some below = (div-lt_iff_lt-mul some).1 (omega arith)

digit_byte : (c : ℕ) → c < 10 → is_ascii_digit (48 + c) ≡ true
digit_byte c h = grind (arith, nat_tests)

digit_is : (c : ℕ) → c < 10 → digit_value (48 + c) ≡ c
digit_is c h = let e = digit_value_digit (48 + c) (omega arith, omega arith) in omega arith

rest_below : (d r : ℕ) → 0 < d → r * 10 % d < d
rest_below d r some = omega arith

-- decimals are digits
pub decimals_digits : (k d r : ℕ) → 0 < d → r < d → list_all is_ascii_digit (decimals k d r) ≡ true
unfolding decimals
decimals_digits zero d r some below = refl
decimals_digits (suc k) d r some below =
    elim (cases_eq r 0) [
      | inl none ↦ ap (list_all is_ascii_digit) (decimals_done (suc k) d r none)
      | inr more ↦
          ap (list_all is_ascii_digit) (decimals_next k d r more)
          ∙ and_from
          (is_ascii_digit (48 + r * 10 / d))
          (list_all is_ascii_digit (decimals k d (r * 10 % d)))
          (digit_byte (r * 10 / d) (digit_below d r some below))
          (decimals_digits k d (r * 10 % d) some (rest_below d r some))
    ]

digit_from_value : (c : ℕ) → digit_value c < 10 → is_ascii_digit c ≡ true
digit_from_value c h = grind (arith, nat_tests)

digits_from_values : (ds : List ℕ) → AllDigits 10 ds → list_all is_ascii_digit ds ≡ true
digits_from_values [] h = refl
digits_from_values (d ∷ ds) h =
    and_from (is_ascii_digit d) (list_all is_ascii_digit ds) (digit_from_value d h.0) (digits_from_values ds h.1)

some_digits : (ds : List ℕ) → 0 < length ds → list_all is_ascii_digit ds ≡ true → are_digits ds ≡ true
some_digits [] h all = absurd (omega arith)
some_digits (d ∷ ds) h all = all

pub decimal_digits : (n : ℕ) → n < 10 ^ 64 → are_digits (decimal n) ≡ true
decimal_digits n h =
    let numeral = (decimal_is_IsNumeral_wide n h).0 in
    some_digits (decimal n) numeral.0 (digits_from_values (decimal n) numeral.1)

-- ---- values

value_append : (v : ℕ) (xs ys : List ℕ) → digits_value_after 10 v (xs ++ ys) ≡ digits_value_after 10 (digits_value_after 10 v xs) ys
value_append v [] ys = refl
value_append v (x ∷ xs) ys = value_append (v * 10 + digit_value x) xs ys

none_left : (d r : ℕ) → r < d → d ∣ r * 10 ^ 0 → r ≡ 0
none_left d r below divides =
    elim (cases_eq r 0) [
      | inl none ↦ none
      | inr more ↦
          let there : d ∣ r = subst (λ (n : ℕ). d ∣ n) (ap (λ n. r * n) (pow-zero 10) ∙ omega arith) divides in
          let long : d ≤ r = le_of_dvd (omega arith) there in
          absurd (omega arith)
    ]

one_power : (k : ℕ) → 10 ^ suc k ≡ 10 ^ k * 10
one_power k = pow-suc 10 k

divides_rest : (k d r : ℕ) → d ∣ r * 10 ^ suc k → d ∣ (r * 10 % d) * 10 ^ k
divides_rest k d r h =
    let p : ℕ = 10 ^ k in
    let q : ℕ = r * 10 / d in
    let s : ℕ = r * 10 % d in
    let whole : r * 10 * p ≡ d * (q * p) + s * p = ap (λ n. n * p) (sym (div-add-mod (r * 10) d)) ∙ omega arith in
    let left : d ∣ r * 10 * p = subst (λ (n : ℕ). d ∣ n) (ap (λ n. r * n) (one_power k) ∙ omega arith) h in
    subst (λ (n : ℕ). d ∣ n) (omega arith) (dvd-sub d left (dvd-mul_right d (q * p)))

nothing_more : (x r : ℕ) → r ≡ 0 → x ≡ (x + r) * 1
nothing_more x r none = omega arith

one_more : (v d r q s : ℕ) → d * q + s ≡ r * 10 → (v * 10 + q) * d + s ≡ (v * d + r) * 10
one_more v d r q s e = omega arith

regroup : (x p : ℕ) → x * 10 * p ≡ x * (p * 10)
regroup x p = omega arith

one_step : (v d r q s k : ℕ) → d * q + s ≡ r * 10 → ((v * 10 + q) * d + s) * 10 ^ k ≡ (v * d + r) * 10 ^ suc k
one_step v d r q s k e =
    ap (λ n. n * 10 ^ k) (one_more v d r q s e) ∙ regroup (v * d + r) (10 ^ k) ∙ ap (λ n. (v * d + r) * n) (sym (one_power k))

-- the number that the decimals of r/d write behind a whole number v, over the power of ten of their number, is v + r/d
pub decimals_value : (k v d r : ℕ) → 0 < d → r < d → d ∣ r * 10 ^ k → digits_value_after 10 v (decimals k d r) * d ≡ (v * d + r) * 10 ^ length (decimals k d r)
unfolding decimals
decimals_value zero v d r some below divides = nothing_more (v * d) r (none_left d r below divides)
decimals_value (suc k) v d r some below divides =
    elim (cases_eq r 0) [
      | inl none ↦
          subst
          (λ (ds : List ℕ). digits_value_after 10 v ds * d ≡ (v * d + r) * 10 ^ length ds)
          (sym (decimals_done (suc k) d r none))
          (nothing_more (v * d) r none)
      | inr more ↦
          let q : ℕ = r * 10 / d in
          let s : ℕ = r * 10 % d in
          let ds : List ℕ = decimals k d s in
          subst
          (λ (xs : List ℕ). digits_value_after 10 v xs * d ≡ (v * d + r) * 10 ^ length xs)
          (sym (decimals_next k d r more))
          (ap (λ c. digits_value_after 10 (v * 10 + c) ds * d) (digit_is q (digit_below d r some below))
          ∙ decimals_value k (v * 10 + q) d s some (rest_below d r some) (divides_rest k d r divides)
          ∙ one_step v d r q s (length ds) (div-add-mod (r * 10) d))
    ]

divides_all : (d r : ℕ) → scale % d ≡ 0 → d ∣ r * 10 ^ 15
divides_all d r short = dvd_trans d (dvd_of_mod-eq-zero d short) (dvd-mul_left scale r)

-- the digits of n/d, over the power of ten of the number of decimals, are n/d
pub text_value : (n d : ℕ) → 0 < d → scale % d ≡ 0 → n / d < 10 ^ 64 → let ds : List ℕ = decimals 15 d (n % d) in digits_value 10 (whole_text (n / d) ++ ds) * d ≡ n * 10 ^ length ds
text_value n d some short small =
    let ds : List ℕ = decimals 15 d (n % d) in
    let below : n % d < d = omega arith in
    let whole : n / d * d + n % d ≡ n = omega (arith, div-add-mod n d) in
    ap (λ v. v * d) (value_append 0 (decimal (n / d)) ds ∙ ap (λ v. digits_value_after 10 v ds) ((decimal_is_IsNumeral_wide (n / d) small).1))
    ∙ decimals_value 15 (n / d) d (n % d) some below (divides_all d (n % d) short)
    ∙ ap (λ v. v * 10 ^ length ds) whole

-- ---- cutting at the point

no_point_byte : (b : ℕ) → is_ascii_digit b ≡ true → (b == 46) ≡ false
no_point_byte b digit = grind (arith, nat_tests)

no_minus_byte : (b : ℕ) → is_ascii_digit b ≡ true → (b == 45) ≡ false
no_minus_byte b digit = grind (arith, nat_tests)

-- the first point stands behind the digits
cut_at_point : (xs ys : List ℕ) → list_all is_ascii_digit xs ≡ true → position_or_len is_point (xs ++ (46 ∷ ys)) ≡ length xs
cut_at_point [] ys digits = refl
cut_at_point (x ∷ xs) ys digits =
    let both = and_parts (is_ascii_digit x) (list_all is_ascii_digit xs) digits in
    ap (λ b. cond (not b) (1 + position_or_len is_point (xs ++ (46 ∷ ys))) 0) (no_point_byte x both.0)
    ∙ ap (λ n. 1 + n) (cut_at_point xs ys both.1) ∙ omega arith

cut_at_end : (xs : List ℕ) → list_all is_ascii_digit xs ≡ true → position_or_len is_point xs ≡ length xs
cut_at_end [] digits = refl
cut_at_end (x ∷ xs) digits =
    let both = and_parts (is_ascii_digit x) (list_all is_ascii_digit xs) digits in
    ap (λ b. cond (not b) (1 + position_or_len is_point xs) 0) (no_point_byte x both.0)
    ∙ ap (λ n. 1 + n) (cut_at_end xs both.1) ∙ omega arith

reads_whole : (xs : List ℕ) → are_digits xs ≡ true → number_without_sign xs ≡ Some (ratio (pos (digits_value 10 xs)) 1)
reads_whole xs some =
    rw (cut_at_end xs (all_digits xs some), take-length, drop-length, some) refl

reads_point : (xs : List ℕ) (y : ℕ) (ys : List ℕ) → are_digits xs ≡ true → are_digits (y ∷ ys) ≡ true → number_without_sign (xs ++ (46 ∷ (y ∷ ys))) ≡ Some (ratio (pos (digits_value 10 (xs ++ (y ∷ ys)))) (10 ^ length (y ∷ ys)))
reads_point xs y ys some more =
    rw
    (cut_at_point xs (y ∷ ys) (all_digits xs some), take-append_seam xs (46 ∷ (y ∷ ys)), drop-append_seam xs (46 ∷ (y ∷ ys)), some, more)
    refl

-- digits and decimals read as their digits over the power of ten of the number of decimals
reads_parts : (xs ds : List ℕ) → are_digits xs ≡ true → list_all is_ascii_digit ds ≡ true → number_without_sign (xs ++ point_and ds) ≡ Some (ratio (pos (digits_value 10 (xs ++ ds))) (10 ^ length ds))
unfolding point_and
reads_parts xs [] some digits = rw (append-nil xs) (reads_whole xs some)
reads_parts xs (y ∷ ys) some digits = reads_point xs y ys some digits

-- ---- the number

ten_power : (k : ℕ) → 0 < 10 ^ k
ten_power k = one-le-pow k 10 (omega arith)

reads_size : (n d : ℕ) → 0 < d → scale % d ≡ 0 → n / d < 10 ^ 64 → number_without_sign (whole_text (n / d) ++ point_and (decimals 15 d (n % d))) ≡ Some (ratio (pos n) d)
reads_size n d some short small =
    let ds : List ℕ = decimals 15 d (n % d) in
    let below : n % d < d = omega arith in
    reads_parts (decimal (n / d)) ds (decimal_digits (n / d) small) (decimals_digits 15 d (n % d) some below)
    ∙ ap
    (λ q. Some q)
    (same_ratios (pos (digits_value 10 (decimal (n / d) ++ ds))) (pos n) (10 ^ length ds) d (ten_power (length ds)) some (ap pos (text_value n d some short small)))

no_minus : (xs rest : List ℕ) → are_digits xs ≡ true → starts_with_minus (xs ++ rest) ≡ false
no_minus [] rest some = cc
no_minus (x ∷ xs) rest some = no_minus_byte x ((and_parts (is_ascii_digit x) (list_all is_ascii_digit xs) some).0)

reads_signed : (negative : Bool) (n d : ℕ) → 0 < d → scale % d ≡ 0 → n / d < 10 ^ 64 → number_of_text (decimal_text negative n d) ≡ Some (cond negative (negate (ratio (pos n) d)) (ratio (pos n) d))
unfolding number_of_text decimal_text
reads_signed true n d some short small = ap (option_map negate) (reads_size n d some short small)
reads_signed false n d some short small =
    rw (no_minus (decimal (n / d)) (point_and (decimals 15 d (n % d))) (decimal_digits (n / d) small)) (reads_size n d some short small)

size_lowest : (n : ℤ) (d : ℕ) → IsTrue (is_lowest n d) → IsTrue (is_lowest (pos (unsigned_abs n)) d)
size_lowest (pos n) d h = h
size_lowest (negsuc n) d h = h

with_sign : (n : ℤ) (d : ℕ) (h : IsTrue (is_lowest n d)) → cond (int_lt n (pos 0)) (negate (ratio (pos (unsigned_abs n)) d)) (ratio (pos (unsigned_abs n)) d) ≡ ratio n d
unfolding negate
with_sign (pos n) d h = let least : int_lt (pos n) (pos 0) ≡ false = le-ltb n 0 (omega arith) in rw least refl
with_sign (negsuc n) d h = let e = ratio_of_lowest (pos (suc n)) d h in rw e refl

-- the decimal text of a short number reads as the number
pub short_text_reads : (q : Rational) → IsTrue (is_short q) → unsigned_abs q.numer ≤ limit → number_of_text (short_text q) ≡ Some q
unfolding short_text is_short
short_text_reads q short bound =
    let some : 0 < q.denom = denom-pos q in
    let fits : unsigned_abs q.numer / q.denom < 10 ^ 64 = let small = div-le_self (unsigned_abs q.numer) q.denom in omega arith in
    reads_signed (int_lt q.numer (pos 0)) (unsigned_abs q.numer) q.denom some (eqb-true (scale % q.denom) 0 short) fits
    ∙ ap (λ r. Some r) (with_sign q.numer q.denom q.lowest ∙ ratio_parts q)
