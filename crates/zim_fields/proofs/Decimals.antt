-- The decimal text of a number is a field, and reads back as the number.
use Rattle.std.proofs.Common.{◌≡◌, ℕ, zero, suc, ◌+◌, ◌<◌, ◌≤◌, ◌/◌, ◌%◌, ◌^◌, Bool, true, false, not, nat_le, List, [], ◌∷◌, ◌++◌, length, Some, ℤ, pos, negsuc, refl, ◌∙◌, ap, arith}
use Rattle.std.specs.Prelude.{◌==◌, decimal, unsigned_abs}
use Rattle.std.specs.Fmt.{signed_decimal}
use Rattle.std.specs.List.{AllByRecursion}
use Rattle.std.specs.Char.{is_ascii_digit}
use Rattle.std.specs.Str.{all_ascii_digits}
use Rattle.std.specs.Str.Parse.{digits_value, starts_with_minus}
use Rattle.std.proofs.lemmas.Fmt.{decimal_is_IsNumeral_wide, decimal_digit, decimal_step_wide}
use Rattle.std.proofs.lemmas.Str.Parse.{IsNumeralModel, numerals_by_value, tells_all_ascii_digits}
use Rattle.std.proofs.lemmas.Bool.{and_parts, leb-true, leb-false}
use Rattle.std.proofs.lemmas.Bool.Decides.{nat_tests}
use Rattle.zim_fields.specs.Fields.{is_empty, IsPlainByte, IsField}
use Rattle.zim_fields.specs.Numbers.{is_one_spelling, count_of, from_one_of, whole_of}
use Rattle.zim_fields.proofs.Cutting.{digits_plain}

own : IsNumeralModel (λ ds. all_ascii_digits ds ≡ true) (digits_value 10)
own = numerals_by_value (λ ds. all_ascii_digits ds ≡ true) tells_all_ascii_digits

not_empty : (ds : List ℕ) → 0 < length ds → is_empty ds ≡ false
not_empty [] h = absurd (omega arith)
not_empty (d ∷ ds) h = refl

decimal_some : (n : ℕ) → n < 10 ^ 64 → is_empty (decimal n) ≡ false
decimal_some n h = not_empty (decimal n) (decimal_is_IsNumeral_wide n h).0.0

pub decimal_digits : (n : ℕ) → n < 10 ^ 64 → all_ascii_digits (decimal n) ≡ true
decimal_digits n h = own.from (decimal n) (decimal_is_IsNumeral_wide n h).0.1

-- as fields

decimal_plain_wide : (n : ℕ) → n < 10 ^ 64 → AllByRecursion IsPlainByte (decimal n)
decimal_plain_wide n h = digits_plain (decimal n) (decimal_digits n h)

pub decimal_plain : (n : ℕ) → n < 2 ^ 64 → AllByRecursion IsPlainByte (decimal n)
decimal_plain n h = decimal_plain_wide n (omega arith)

decimal_field_wide : (n : ℕ) → n < 10 ^ 64 → IsField (decimal n)
decimal_field_wide n h = record { some = decimal_some n h; plain = decimal_plain_wide n h }

pub decimal_field : (n : ℕ) → n < 2 ^ 64 → IsField (decimal n)
decimal_field n h = decimal_field_wide n (omega arith)

-- a byte and a number
pub lettered_field : (b n : ℕ) → IsPlainByte b → n < 2 ^ 64 → IsField (b ∷ decimal n)
lettered_field b n plain h = record { some = refl; plain = (plain, decimal_plain n h) }

-- a number with its sign
pub signed_field : (z : ℤ) → unsigned_abs z < 10 ^ 64 → IsField (signed_decimal z)
signed_field (pos n) h = decimal_field_wide n h
signed_field (negsuc n) h = record { some = refl; plain = (record { blank = refl; line_end = refl }, decimal_plain_wide (suc n) h) }

-- a number's text is its one spelling

-- The first byte is no 0.
abbrev begins_above : List ℕ → Bool
begins_above [] = false
begins_above (d ∷ _) = not (d == 48)

begins_append : (ds es : List ℕ) → begins_above ds ≡ true → begins_above (ds ++ es) ≡ true
begins_append [] es h = cc
begins_append (d ∷ ds) es h = h

digit_above : (n : ℕ) → 0 < n → not (48 + n == 48) ≡ true
digit_above n some = let other : (48 + n == 48) ≡ false = grind (arith, nat_tests) in rw other refl

above_by : (k n : ℕ) → n ≤ k → 0 < n → n < 10 ^ 64 → begins_above (decimal n) ≡ true
above_by zero n most some small = absurd (omega arith)
above_by (suc k) n most some small = by_size (nat_le 10 n) refl (λ low. above_by k (n / 10) (omega arith) (omega arith) (omega arith))
  where
    by_size : (b : Bool) → nat_le 10 n ≡ b → (10 ≤ n → begins_above (decimal (n / 10)) ≡ true) → begins_above (decimal n) ≡ true
    by_size true e later =
        let low : 10 ≤ n = leb-true 10 n e in
        ap begins_above (decimal_step_wide n low small) ∙ begins_append (decimal (n / 10)) ((48 + n % 10) ∷ []) (later low)
    by_size false e later =
        let high : n < 10 = leb-false 10 n e in
        ap begins_above (decimal_digit n high) ∙ digit_above n some

above_is_spelled : (ds : List ℕ) → begins_above ds ≡ true → is_one_spelling ds ≡ true
above_is_spelled [] h = cc
above_is_spelled (d ∷ []) h = refl
above_is_spelled (d ∷ e ∷ ds) h = h

decimal_spelled : (n : ℕ) → n < 10 ^ 64 → is_one_spelling (decimal n) ≡ true
decimal_spelled zero h = ap is_one_spelling (decimal_digit 0 (omega arith))
decimal_spelled (suc n) h = above_is_spelled (decimal (suc n)) (above_by (suc n) (suc n) (omega arith) (omega arith) h)

-- as numbers

pub count_of-decimal : (n : ℕ) → n < 10 ^ 64 → count_of (decimal n) ≡ Some n
count_of-decimal n h = rw (decimal_spelled n h, decimal_digits n h) (ap (λ m. Some m) (decimal_is_IsNumeral_wide n h).1)

other_than_zero : (n : ℕ) → 0 < n → (n == 0) ≡ false
other_than_zero n some = grind (arith, nat_tests)

-- a number from 1 reads back
pub from_one_of-decimal : (n : ℕ) → 0 < n → n < 10 ^ 64 → from_one_of (decimal n) ≡ Some n
from_one_of-decimal n some h = rw (count_of-decimal n h, other_than_zero n some) refl

no_minus_byte : (b : ℕ) → is_ascii_digit b ≡ true → (b == 45) ≡ false
no_minus_byte b digit = grind (arith, nat_tests)

no_minus : (ds : List ℕ) → all_ascii_digits ds ≡ true → starts_with_minus ds ≡ false
no_minus [] digits = refl
no_minus (d ∷ ds) digits = no_minus_byte d (and_parts (is_ascii_digit d) (all_ascii_digits ds) digits).0

-- a whole number reads back
pub whole_of-signed : (z : ℤ) → unsigned_abs z < 10 ^ 64 → whole_of (signed_decimal z) ≡ Some z
whole_of-signed (pos n) h = rw (no_minus (decimal n) (decimal_digits n h), count_of-decimal n h) refl
whole_of-signed (negsuc n) h = rw (from_one_of-decimal (suc n) (omega arith) h) refl
