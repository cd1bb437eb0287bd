-- The text of a number that reads back is a field, and negatives and differences of short numbers are short.
use Rattle.std.proofs.Common.{◌≡◌, ℕ, suc, ◌+◌, Bool, true, false, not, cond, ◌&&◌, ◌^◌, List, [], ◌∷◌, ◌++◌, length, take, drop, Option, Some, None, IsTrue, pos, refl, sym, ◌∙◌, ap, ap₂, subst, arith}
use Rattle.std.specs.Prelude.{◌%◌, ◌==◌, if◌then◌else◌, option_map, Result, Ok}
use Rattle.std.specs.List.{AllByRecursion, list_all, position_or_len, before_first}
use Rattle.std.specs.Char.{is_ascii_digit}
use Rattle.std.specs.Str.Parse.{digits_value}
use Rattle.std.proofs.lemmas.Bool.{and_parts}
use Rattle.std.proofs.lemmas.Bool.Decides.{nat_tests}
use Rattle.zim_rational.specs.Rational.{Rational, zero, one, whole, ratio, plus, negate, minus, times, is_whole}
use Rattle.zim_rational.proofs.Ring.{times_comm, times_minus, minus_is}
use Rattle.zim_rational.proofs.Whole.{is_whole_whole, whole_is_whole, whole_plus, whole_negate}
use Rattle.zim_rational.proofs.Parts.{negate-parts}
use Rattle.zim_fraction.specs.Answers.{difference_answer}
use Rattle.zim_fraction.specs.declared.fault.Past.{Past}
use Rattle.zim_fields.specs.Fields.{is_empty, IsPlainByte, IsField}
use Rattle.zim_decimal.specs.Short.{scale, is_short}
use Rattle.zim_decimal.specs.Token.{are_digits, is_point, from_first}
use Rattle.zim_decimal.specs.Reading.{number_of_parts, number_without_sign, number_of_text}
use Rattle.zim_decimal.proofs.TokenLaws.{all_digits}
use Rattle.zim_linear.proofs.WholeFormLaws.{whole_from_divides, divides_from_whole}
use Rattle.zim_rows.specs.Program.{IsShortRange}
use Rattle.zim_rows.proofs.ShortLaws.{short_from_divides, divides_from_short}

-- ---- texts

digit_plain : (b : ℕ) → is_ascii_digit b ≡ true → IsPlainByte b
digit_plain b digit = record { blank = grind (arith, nat_tests); line_end = grind (arith, nat_tests) }

point_plain : (b : ℕ) → is_point b ≡ true → IsPlainByte b
point_plain b point = record { blank = grind (arith, nat_tests); line_end = grind (arith, nat_tests) }

minus_plain : (b : ℕ) → (b == 45) ≡ true → IsPlainByte b
minus_plain b minus = record { blank = grind (arith, nat_tests); line_end = grind (arith, nat_tests) }

digits_plain : (ds : List ℕ) → list_all is_ascii_digit ds ≡ true → AllByRecursion IsPlainByte ds
digits_plain [] digits = tt
digits_plain (d ∷ ds) digits =
    let both = and_parts (is_ascii_digit d) (list_all is_ascii_digit ds) digits in (digit_plain d both.0, digits_plain ds both.1)

-- digits stand behind the first byte, if there is one
abbrev digits_behind : List ℕ → Bool
digits_behind [] = true
digits_behind (point ∷ behind) = list_all is_ascii_digit behind

taken_next : (b n : ℕ) (rest : List ℕ) → take (1 + n) (b ∷ rest) ≡ b ∷ take n rest
taken_next b n rest = let e : 1 + n ≡ suc n = omega arith in ap (λ (k : ℕ). take k (b ∷ rest)) e

dropped_next : (b n : ℕ) (rest : List ℕ) → drop (1 + n) (b ∷ rest) ≡ drop n rest
dropped_next b n rest = let e : 1 + n ≡ suc n = omega arith in ap (λ (k : ℕ). drop k (b ∷ rest)) e

-- a text of digits up to a point, and of digits behind that, is plain
parts_plain : (text : List ℕ) → list_all is_ascii_digit (before_first is_point text) ≡ true → digits_behind (from_first is_point text) ≡ true → AllByRecursion IsPlainByte text
parts_plain [] digits behind = tt
parts_plain (b ∷ rest) digits behind = by_point (is_point b) refl (parts_plain rest) digits behind
  where
    by_point : (p : Bool) → is_point b ≡ p → (list_all is_ascii_digit (before_first is_point rest) ≡ true → digits_behind (from_first is_point rest) ≡ true → AllByRecursion IsPlainByte rest) → list_all is_ascii_digit (take (cond (not p) (1 + position_or_len is_point rest) 0) (b ∷ rest)) ≡ true → digits_behind (drop (cond (not p) (1 + position_or_len is_point rest) 0) (b ∷ rest)) ≡ true → AllByRecursion IsPlainByte (b ∷ rest)
    by_point true e later d t = (point_plain b e, digits_plain rest t)
    by_point false e later d t =
        let both = and_parts (is_ascii_digit b) (list_all is_ascii_digit (before_first is_point rest)) (sym (ap (list_all is_ascii_digit) (taken_next b (position_or_len is_point rest) rest)) ∙ d) in
        (digit_plain b both.0, later both.1 (sym (ap digits_behind (dropped_next b (position_or_len is_point rest) rest)) ∙ t))

parts_digits : (front rest : List ℕ) (q : Rational) → number_of_parts front rest ≡ Some q → (are_digits front ≡ true) × (digits_behind rest ≡ true)
parts_digits front [] q e = by_test (are_digits front) _ e
  where
    by_test : (b : Bool) (r : Rational) → (if b then Some r else None) ≡ Some q → (b ≡ true) × (digits_behind [] ≡ true)
    by_test true r e = (refl, refl)
    by_test false r e = cc
parts_digits front (point ∷ behind) q e = by_test (are_digits front) (are_digits behind) (ratio (pos (digits_value 10 (front ++ behind))) (10 ^ length behind)) refl e
  where
    by_test : (a b : Bool) (r : Rational) → are_digits behind ≡ b → (if a && b then Some r else None) ≡ Some q → (a ≡ true) × (digits_behind (point ∷ behind) ≡ true)
    by_test true true r same e = (refl, all_digits behind same)
    by_test true false r same e = cc
    by_test false b r same e = cc

some_bytes : (text : List ℕ) → are_digits (before_first is_point text) ≡ true → is_empty text ≡ false
some_bytes [] some = cc
some_bytes (b ∷ rest) some = refl

unsigned_field : (text : List ℕ) (q : Rational) → number_without_sign text ≡ Some q → IsField text
unsigned_field text q e =
    let both = parts_digits (before_first is_point text) (from_first is_point text) q e in
    record {
      some = some_bytes text both.0;
      plain = parts_plain text (all_digits (before_first is_point text) both.0) both.1;
    }

number_behind : (o : Option Rational) (q : Rational) → option_map negate o ≡ Some q → (r : Rational) × (o ≡ Some r)
number_behind (Some r) q e = (r, refl)
number_behind None q e = cc

-- a text that is read as a number is a field
pub number_field : (text : List ℕ) (q : Rational) → number_of_text text ≡ Some q → IsField text
unfolding number_of_text
number_field [] q e = unsigned_field [] q e
number_field (b ∷ rest) q e = by_sign (b == 45) refl e
  where
    by_sign : (s : Bool) → (b == 45) ≡ s → (if s then option_map negate (number_without_sign rest) else number_without_sign (b ∷ rest)) ≡ Some q → IsField (b ∷ rest)
    by_sign true minus e =
        let behind = number_behind (number_without_sign rest) q e in
        record { some = refl; plain = (minus_plain b minus, (unsigned_field rest behind.0 behind.1).plain) }
    by_sign false minus e = unsigned_field (b ∷ rest) q e

-- ---- short numbers

-- the negative of a short number is short
pub short_negate : (q : Rational) → IsTrue (is_short q) → IsTrue (is_short (negate q))
unfolding is_short
short_negate q h = subst (λ (d : ℕ). IsTrue (scale % d == 0)) (sym (negate-parts q).denom) h

-- the difference of two short numbers is short: times 10^15 it is one of whole numbers
pub short_minus : (a b : Rational) → IsTrue (is_short a) → IsTrue (is_short b) → IsTrue (is_short (minus a b))
short_minus a b h k =
    let w : Rational = whole (pos scale) in
    let left : times a w ≡ whole (times a w).numer = is_whole_whole (times a w) (whole_from_divides a scale (divides_from_short a h)) in
    let right : times b w ≡ whole (times b w).numer = is_whole_whole (times b w) (whole_from_divides b scale (divides_from_short b k)) in
    let m = (times a w).numer in
    let n = (times b w).numer in
    let difference : times (minus a b) w ≡ minus (times a w) (times b w) =
    times_comm (minus a b) w ∙ times_minus w a b ∙ ap₂ minus (times_comm w a) (times_comm w b) in
    let of_whole : times (minus a b) w ≡ plus (whole m) (negate (whole n)) =
    difference ∙ ap₂ minus left right ∙ minus_is (whole m) (whole n) in
    short_from_divides
    (minus a b)
    (divides_from_whole
    (minus a b)
    scale
    (subst (λ (q : Rational). IsTrue (is_whole q)) (sym (of_whole ∙ ap (plus (whole m)) (whole_negate n) ∙ whole_plus m _)) (whole_is_whole _)))

-- the number 0 is short
pub short_zero : (q : Rational) → q ≡ zero → IsTrue (is_short q)
unfolding is_short zero whole
short_zero q e = subst (λ (r : Rational). IsTrue (scale % r.denom == 0)) (sym e) refl

-- the number 1 is short
pub short_one : (q : Rational) → q ≡ one → IsTrue (is_short q)
unfolding is_short one whole
short_one q e = subst (λ (r : Rational). IsTrue (scale % r.denom == 0)) (sym e) refl

-- the difference of a range's sides is there
pub difference_there : (low high : Rational) → IsShortRange low high → difference_answer high low ≡ Ok (minus high low)
unfolding difference_answer
difference_there low high is = rw is.difference refl

-- and is what the subtraction answers
pub difference_is : (low high q : Rational) (answer : Result Rational Past) → IsShortRange low high → answer ≡ difference_answer high low → answer ≡ Ok q → q ≡ minus high low
difference_is low high q answer is e f = same_of_ok q (minus high low) (sym f ∙ e ∙ difference_there low high is)
  where
    same_of_ok : (x y : Rational) → (let r : Result Rational Past = Ok x in r) ≡ Ok y → x ≡ y
    same_of_ok x y e = cc
