-- A number's text reads back as the number, and is a word.
use Rattle.std.proofs.Common.{◌≡◌, ℕ, ◌<◌, ◌≤◌, ◌/◌, ◌%◌, ◌^◌, Bool, true, false, cond, ◌&&◌, IsTrue, List, [], ◌∷◌, ◌++◌, length, Some, ℤ, pos, negsuc, eqb-true, le-ltb, append-nil, refl, sym, ◌∙◌, ap, ap₂, subst, arith}
use Rattle.std.specs.Prelude.{◌==◌, decimal, unsigned_abs, int_lt, neg_ℤ}
use Rattle.std.specs.List.{All, AllByRecursion, list_all}
use Rattle.std.specs.Str.{all_ascii_digits}
use Rattle.std.specs.Str.Parse.{digits_value, starts_with_minus}
use Rattle.std.specs.Char.{is_ascii_digit}
use Rattle.std.proofs.lemmas.Fmt.{digits_decimal, decimal_nonempty}
use Rattle.std.proofs.lemmas.Str.Parse.{IsNumeralModel, numerals_by_value, tells_all_ascii_digits}
use Rattle.std.proofs.lemmas.List.Splits.{slice_split_none, slice_split_at}
use Rattle.std.proofs.lemmas.List.Elements.{All-cons, All-nil}
use Rattle.std.proofs.lemmas.Bool.Decides.{nat_tests}
use Rattle.std.proofs.lemmas.Bool.{and_parts}
use Rattle.std.proofs.Math.Nat.{one-le-pow, div-le_self}
use Rattle.zim_rational.specs.Rational.{Rational, ratio, negate, ratio_parts}
use Rattle.zim_rational.proofs.Whole.{same_ratios}
use Rattle.zim_rational.proofs.Ring.{negate_negate}
use Rattle.zim_rational.proofs.Parts.{negate-parts}
use Rattle.zim_rational.proofs.Fraction.{denom-pos}
use Rattle.zim_fraction.specs.Limit.{limit}
use Rattle.zim_decimal.specs.Short.{scale, is_short, decimals, point_and, whole_text, decimal_text, short_text}
use Rattle.zim_decimal.specs.Token.{are_digits}
use Rattle.zim_decimal.proofs.TokenLaws.{all_digits}
use Rattle.zim_decimal.proofs.ValueLaws as value
use Rattle.zim_lp.specs.Words.{is_empty_word}
use Rattle.zim_lp.specs.Numerals.{unsigned_number, number_of_word}
use Rattle.zim_lp.specs.FileText.{WrittenNumber, number_text}
use Rattle.zim_lp.specs.Text.{magnitude, short_number}
use Rattle.zim_lp.proofs.Cutting.{IsPlainByte, IsWord}

-- A written number is a word for its absolute value, which reads as such, and a sign.
pub record IsNumber (n : WrittenNumber) (q : Rational) : Type 0 where
  pub absolute : Rational
  pub word : IsWord n.absolute
  pub unsigned : starts_with_minus n.absolute ≡ false
  pub reads : unsigned_number n.absolute ≡ Some absolute
  pub signed : q ≡ cond n.negative (negate absolute) absolute

-- the absolute value reads as itself
pub reads_absolute : (n : WrittenNumber) (q : Rational) (is : IsNumber n q) → number_of_word n.absolute ≡ Some is.absolute
reads_absolute n q is = rw is.unsigned is.reads

reads_with_sign : (negative : Bool) (digits : List ℕ) (a q : Rational) → starts_with_minus digits ≡ false → unsigned_number digits ≡ Some a → q ≡ cond negative (negate a) a → number_of_word (number_text (record { negative = negative; absolute = digits })) ≡ Some q
reads_with_sign true digits a q unsigned reads signed = rw (reads, signed) refl
reads_with_sign false digits a q unsigned reads signed = rw (unsigned, reads, signed) refl

-- the text of a number reads as the number
pub reads_number : (n : WrittenNumber) (q : Rational) → IsNumber n q → number_of_word (number_text n) ≡ Some q
reads_number n q is = reads_with_sign n.negative n.absolute is.absolute q is.unsigned is.reads is.signed

minus_plain : IsPlainByte 45
minus_plain = record { gap = refl; backslash = refl }

signed_word : (negative : Bool) (digits : List ℕ) → IsWord digits → IsWord (number_text (record { negative = negative; absolute = digits }))
signed_word true digits word = record { some = refl; plain = (minus_plain, word.plain) }
signed_word false digits word = word

-- the text of a number is a word
pub number_word : (n : WrittenNumber) (q : Rational) → IsNumber n q → IsWord (number_text n)
number_word n q is = signed_word n.negative n.absolute is.word

-- digits

pub digit_plain : (b : ℕ) → is_ascii_digit b ≡ true → IsPlainByte b
digit_plain b digit = record { gap = grind (arith, nat_tests); backslash = grind (arith, nat_tests) }

pub digits_plain : (ds : List ℕ) → all_ascii_digits ds ≡ true → AllByRecursion IsPlainByte ds
digits_plain [] digits = tt
digits_plain (d ∷ ds) digits =
    let both = and_parts (is_ascii_digit d) (all_ascii_digits ds) digits in
    (digit_plain d both.0, digits_plain ds both.1)

no_points : (ds : List ℕ) → all_ascii_digits ds ≡ true → All (λ b. (b == 46) ≡ false) ds
no_points [] digits = All-nil (λ b. (b == 46) ≡ false)
no_points (d ∷ ds) digits =
    let both = and_parts (is_ascii_digit d) (all_ascii_digits ds) digits in
    All-cons (λ b. (b == 46) ≡ false) d ds (no_point d both.0) (no_points ds both.1)
  where
    no_point : (b : ℕ) → is_ascii_digit b ≡ true → (b == 46) ≡ false
    no_point b digit = grind (arith, nat_tests)

no_minus : (ds : List ℕ) → all_ascii_digits ds ≡ true → starts_with_minus ds ≡ false
no_minus [] digits = refl
no_minus (d ∷ ds) digits = no_minus_byte d (and_parts (is_ascii_digit d) (all_ascii_digits ds) digits).0
  where
    no_minus_byte : (b : ℕ) → is_ascii_digit b ≡ true → (b == 45) ≡ false
    no_minus_byte b digit = grind (arith, nat_tests)

-- digits without a point read as their value
digits_read : (ds : List ℕ) → is_empty_word ds ≡ false → all_ascii_digits ds ≡ true → unsigned_number ds ≡ Some (ratio (pos (digits_value 10 ds)) 1)
digits_read ds some digits = rw (slice_split_none (λ b. b == 46) ds (no_points ds digits), some, digits) refl

own : IsNumeralModel (λ ds. all_ascii_digits ds ≡ true) (digits_value 10)
own = numerals_by_value (λ ds. all_ascii_digits ds ≡ true) tells_all_ascii_digits

-- a number's digits
pub decimal_digits : (n : ℕ) → n < 2 ^ 64 → all_ascii_digits (decimal n) ≡ true
decimal_digits n h = digits_decimal own n h

not_empty : (ds : List ℕ) → 0 < length ds → is_empty_word ds ≡ false
not_empty [] h = absurd (omega arith)
not_empty (d ∷ ds) h = refl

pub decimal_some : (n : ℕ) → n < 2 ^ 64 → is_empty_word (decimal n) ≡ false
decimal_some n h = not_empty (decimal n) (decimal_nonempty n h)

pub decimal_word : (n : ℕ) → n < 2 ^ 64 → IsWord (decimal n)
decimal_word n h = record { some = decimal_some n h; plain = digits_plain (decimal n) (decimal_digits n h) }

-- short numbers

-- digits, as both crates say it
pub same_digits : (ds : List ℕ) → list_all is_ascii_digit ds ≡ all_ascii_digits ds
same_digits [] = refl
same_digits (d ∷ ds) = ap (λ b. is_ascii_digit d && b) (same_digits ds)

-- digits and decimals read as their digits over the power of ten of the number of decimals
parts_read : (xs ds : List ℕ) → is_empty_word xs ≡ false → all_ascii_digits xs ≡ true → all_ascii_digits ds ≡ true → unsigned_number (xs ++ point_and ds) ≡ Some (ratio (pos (digits_value 10 (xs ++ ds))) (10 ^ length ds))
unfolding point_and
parts_read xs [] some digits behind = rw (append-nil xs) (digits_read xs some digits)
parts_read xs (d ∷ ds) some digits behind =
    rw (
      slice_split_at (λ b. b == 46) xs 46 (d ∷ ds) (no_points xs digits) refl,
      slice_split_none (λ b. b == 46) (d ∷ ds) (no_points (d ∷ ds) behind),
      some,
      digits,
      behind,
    )
    refl

pub plain_append : (a b : List ℕ) → AllByRecursion IsPlainByte a → AllByRecursion IsPlainByte b → AllByRecursion IsPlainByte (a ++ b)
plain_append [] b p q = q
plain_append (x ∷ a) b p q = (p.0, plain_append a b p.1 q)

point_plain : (ds : List ℕ) → all_ascii_digits ds ≡ true → AllByRecursion IsPlainByte (point_and ds)
unfolding point_and
point_plain [] digits = tt
point_plain (d ∷ ds) digits = (record { gap = refl; backslash = refl }, digits_plain (d ∷ ds) digits)

parts_word : (xs ds : List ℕ) → is_empty_word xs ≡ false → all_ascii_digits xs ≡ true → all_ascii_digits ds ≡ true → IsWord (xs ++ point_and ds)
parts_word [] ds some digits behind = cc
parts_word (x ∷ xs) ds some digits behind = record {
  some = refl;
  plain = plain_append (x ∷ xs) (point_and ds) (digits_plain (x ∷ xs) digits) (point_plain ds behind);
}

parts_unsigned : (xs ds : List ℕ) → is_empty_word xs ≡ false → all_ascii_digits xs ≡ true → starts_with_minus (xs ++ point_and ds) ≡ false
parts_unsigned [] ds some digits = cc
parts_unsigned (x ∷ xs) ds some digits = no_minus (x ∷ xs) digits

-- The text of n/d is a word for it without a minus.
record IsSize (text : List ℕ) (q : Rational) : Type 0 where
  pub word : IsWord text
  pub unsigned : starts_with_minus text ≡ false
  pub reads : unsigned_number text ≡ Some q

size_is : (n d : ℕ) → 0 < d → scale % d ≡ 0 → n / d < 10 ^ 64 → IsSize (whole_text (n / d) ++ point_and (decimals 15 d (n % d))) (ratio (pos n) d)
size_is n d some short small =
    let xs : List ℕ = decimal (n / d) in
    let ds : List ℕ = decimals 15 d (n % d) in
    let below : n % d < d = omega arith in
    let digits : all_ascii_digits xs ≡ true = sym (same_digits xs) ∙ all_digits xs (value.decimal_digits (n / d) small) in
    let filled : is_empty_word xs ≡ false = some_bytes xs (value.decimal_digits (n / d) small) in
    let behind : all_ascii_digits ds ≡ true = sym (same_digits ds) ∙ value.decimals_digits 15 d (n % d) some below in
    record {
      word = parts_word xs ds filled digits behind;
      unsigned = parts_unsigned xs ds filled digits;
      reads =
          parts_read xs ds filled digits behind
          ∙ ap
          (λ q. Some q)
          (same_ratios (pos (digits_value 10 (xs ++ ds))) (pos n) (10 ^ length ds) d (one-le-pow (length ds) 10 (omega arith)) some (ap pos (value.text_value n d some short small)));
    }
  where
    some_bytes : (xs : List ℕ) → are_digits xs ≡ true → is_empty_word xs ≡ false
    some_bytes [] e = cc
    some_bytes (x ∷ xs) e = refl

-- the parts of a magnitude

turned : (z : ℤ) → int_lt z (pos 0) ≡ true → neg_ℤ z ≡ pos (unsigned_abs z)
turned (pos n) e = let least : int_lt (pos n) (pos 0) ≡ false = le-ltb n 0 (omega arith) in cc
turned (negsuc n) e = refl

kept : (z : ℤ) → int_lt z (pos 0) ≡ false → z ≡ pos (unsigned_abs z)
kept (pos n) e = refl
kept (negsuc n) e = cc

numer_of_magnitude : (q : Rational) → (magnitude q).numer ≡ pos (unsigned_abs q.numer)
numer_of_magnitude q = by_sign (int_lt q.numer (pos 0)) refl
  where
    by_sign : (b : Bool) → int_lt q.numer (pos 0) ≡ b → (cond b (negate q) q).numer ≡ pos (unsigned_abs q.numer)
    by_sign true e = (negate-parts q).numer ∙ turned q.numer e
    by_sign false e = kept q.numer e

denom_of_magnitude : (q : Rational) → (magnitude q).denom ≡ q.denom
denom_of_magnitude q = by_sign (int_lt q.numer (pos 0))
  where
    by_sign : (b : Bool) → (cond b (negate q) q).denom ≡ q.denom
    by_sign true = (negate-parts q).denom
    by_sign false = refl

magnitude_signed : (q : Rational) → q ≡ cond (int_lt q.numer (pos 0)) (negate (magnitude q)) (magnitude q)
magnitude_signed q = by_sign (int_lt q.numer (pos 0))
  where
    by_sign : (b : Bool) → q ≡ cond b (negate (cond b (negate q) q)) (cond b (negate q) q)
    by_sign true = sym (negate_negate q)
    by_sign false = refl

-- the magnitude of a short number is short
pub magnitude_short : (q : Rational) → IsTrue (is_short q) → IsTrue (is_short (magnitude q))
unfolding is_short
magnitude_short q short = ap (λ d. scale % d == 0) (denom_of_magnitude q) ∙ short

text_by_parts : (n : ℤ) (m d e : ℕ) → n ≡ pos m → e ≡ d → decimal_text (int_lt n (pos 0)) (unsigned_abs n) e ≡ whole_text (m / d) ++ point_and (decimals 15 d (m % d))
unfolding decimal_text
text_by_parts n m d e is same =
    let least : int_lt (pos m) (pos 0) ≡ false = le-ltb m 0 (omega arith) in
    ap₂ (λ (k : ℤ) (c : ℕ). decimal_text (int_lt k (pos 0)) (unsigned_abs k) c) is same ∙ rw least refl

magnitude_text : (q : Rational) → short_text (magnitude q) ≡ whole_text (unsigned_abs q.numer / q.denom) ++ point_and (decimals 15 q.denom (unsigned_abs q.numer % q.denom))
unfolding short_text
magnitude_text q =
    text_by_parts (magnitude q).numer (unsigned_abs q.numer) q.denom (magnitude q).denom (numer_of_magnitude q) (denom_of_magnitude q)

magnitude_is : (q : Rational) → ratio (pos (unsigned_abs q.numer)) q.denom ≡ magnitude q
magnitude_is q =
    ap₂ (λ (n : ℤ) (d : ℕ). ratio n d) (sym (numer_of_magnitude q)) (sym (denom_of_magnitude q)) ∙ ratio_parts (magnitude q)

size_of_magnitude : (q : Rational) → IsTrue (is_short q) → unsigned_abs q.numer ≤ limit → IsSize (short_text (magnitude q)) (magnitude q)
unfolding is_short
size_of_magnitude q short bound =
    let fits : unsigned_abs q.numer / q.denom < 10 ^ 64 = let small = div-le_self (unsigned_abs q.numer) q.denom in omega arith in
    subst
    (λ (t : List ℕ). IsSize t (magnitude q))
    (sym (magnitude_text q))
    (subst
    (λ (r : Rational). IsSize (whole_text (unsigned_abs q.numer / q.denom) ++ point_and (decimals 15 q.denom (unsigned_abs q.numer % q.denom))) r)
    (magnitude_is q)
    (size_is (unsigned_abs q.numer) q.denom (denom-pos q) (eqb-true (scale % q.denom) 0 short) fits))

-- a short number whose numerator is within the limit
pub IsNumber-short : (q : Rational) → IsTrue (is_short q) → unsigned_abs q.numer ≤ limit → IsNumber (short_number q) q
IsNumber-short q short bound =
    let size : IsSize (short_text (magnitude q)) (magnitude q) = size_of_magnitude q short bound in
    record { absolute = magnitude q; word = size.word; unsigned = size.unsigned; reads = size.reads; signed = magnitude_signed q }
