-- The value of a number token, and when it is past.
use Rattle.std.specs.Prelude.{ℕ, suc, ℤ, pos, negsuc, ◌-◌, ◌^◌, ◌+ℤ◌, ◌-ℤ◌, Bool, ◌&&◌, ◌==◌, cond, nat_le, int_le, if◌then◌else◌, List, [], ◌∷◌, ◌++◌, length, Option, Some, None, Result, Ok, Err}
use Rattle.std.specs.Str.Parse.{digits_value, signed_digits_value, starts_with_minus, without_leading_sign}
use Rattle.zim_rational.specs.Rational.{Rational, zero, whole, times, over, negate}
use Rattle.zim_fraction.specs.Limit.{limit, is_number}
use Rattle.zim_fraction.specs.declared.fault.Past.{Past}
use Rattle.zim_decimal.specs.Token.{whole_digits, decimal_digits, exponent_text, is_field}

-- a digit before others, but no zero where there are none
unfoldable pub before_others : ℕ → List ℕ → List ℕ
before_others digit [] = if digit == 48 then [] else (digit ∷ [])
before_others digit (next ∷ digits) = digit ∷ (next ∷ digits)

-- digits without the zeros at their end
unfoldable pub without_last_zeros : List ℕ → List ℕ
without_last_zeros [] = []
without_last_zeros (digit ∷ digits) = before_others digit (without_last_zeros digits)

-- the token's digits, without its point
abbrev pub digits_of : List ℕ → List ℕ
digits_of text = whole_digits text ++ decimal_digits text

-- the whole number that the digits are without the zeros at either end
abbrev pub significand : List ℕ → ℕ
significand digits = digits_value 10 (without_last_zeros digits)

-- how many zeros stand at the end of the digits
abbrev pub last_zeros : List ℕ → ℕ
last_zeros digits = length digits - length (without_last_zeros digits)

-- the power of ten that the significand is multiplied by: the exponent, one more for each zero at the end, and one less
-- for each digit behind the point
abbrev pub power_of_ten : List ℕ → ℤ
power_of_ten text = signed_digits_value 10 (exponent_text text) +ℤ pos (last_zeros (digits_of text)) -ℤ pos (length (decimal_digits text))

-- q times ten to the power e
unfoldable pub scaled : ℕ → ℤ → Rational
scaled q (pos k) = times (whole (pos q)) (whole (pos (10 ^ k)))
scaled q (negsuc k) = over (whole (pos q)) (whole (pos (10 ^ suc k)))

-- a value, past where its lowest terms pass the limit
unfoldable pub value_answer : Rational → Result Rational Past
value_answer value = cond (is_number value) (Ok value) (Err (record {}))

-- the power is one of those from -38 to 38
abbrev pub is_near : ℤ → Bool
is_near e = int_le (negsuc 37) e && int_le e (pos 38)

-- q times ten to the power e: 0 where q is 0, else past where q passes the limit, where e is below -38 or above 38, and
-- where the lowest terms of the value pass the limit
unfoldable pub scaled_answer : ℕ → ℤ → Result Rational Past
scaled_answer q e =
    if q == 0 then Ok zero else (if nat_le q limit && is_near e then value_answer (scaled q e) else Err (record {}))

-- the value of a number token, or past
unfoldable pub literal_answer : List ℕ → Result Rational Past
literal_answer text = scaled_answer (significand (digits_of text)) (power_of_ten text)

-- the same with a minus or none before it
abbrev pub signed_answer : Bool → Result Rational Past → Result (Option Rational) Past
signed_answer negative (Ok q) = Ok (Some (if negative then negate q else q))
signed_answer negative (Err past) = Err past

-- the value of a number token with a sign or none before it, or past; nothing where the text is no such field
unfoldable pub field_answer : List ℕ → Result (Option Rational) Past
field_answer text =
    if is_field text then signed_answer (starts_with_minus text) (literal_answer (without_leading_sign text)) else Ok None
