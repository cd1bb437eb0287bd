-- Number tokens: digits, perhaps with a point and digits behind it, or a point and digits; then perhaps `e` or `E`, a
-- sign or none, and digits. A field is such a token with a sign or none before it.
use Rattle.std.specs.Prelude.{ℕ, Bool, true, false, ◌&&◌, ◌||◌, ◌==◌, List, [], ◌∷◌, drop}
use Rattle.std.specs.List.{position_or_len, before_first, list_all}
use Rattle.std.specs.Char.{is_ascii_digit}
use Rattle.std.specs.Str.Parse.{without_leading_sign}

-- the byte is `e` or `E`
abbrev pub is_mark : ℕ → Bool
is_mark b = b == 101 || b == 69

-- the byte is a point
abbrev pub is_point : ℕ → Bool
is_point b = b == 46

-- one digit or more
abbrev pub are_digits : List ℕ → Bool
are_digits [] = false
are_digits (digit ∷ digits) = list_all is_ascii_digit (digit ∷ digits)

-- what stands from the first byte that passes p on
abbrev pub from_first : (ℕ → Bool) → List ℕ → List ℕ
from_first p text = drop (position_or_len p text) text

-- what stands before the mark of an exponent
abbrev pub mantissa : List ℕ → List ℕ
mantissa text = before_first is_mark text

-- the digits before the point
abbrev pub whole_digits : List ℕ → List ℕ
whole_digits text = before_first is_point (mantissa text)

-- the digits behind the point, none without a point
abbrev pub decimal_digits : List ℕ → List ℕ
decimal_digits text = drop 1 (from_first is_point (mantissa text))

-- the sign and the digits of the exponent, none without a mark
abbrev pub exponent_text : List ℕ → List ℕ
exponent_text text = drop 1 (from_first is_mark text)

-- digits stand before a point or where there is none, or behind it
abbrev pub are_parts : List ℕ → List ℕ → Bool
are_parts whole [] = are_digits whole
are_parts whole (point ∷ behind) = list_all is_ascii_digit whole && are_digits behind

-- there is no mark, or digits stand behind it and a sign or none
abbrev pub is_exponent : List ℕ → Bool
is_exponent [] = true
is_exponent (mark ∷ exponent) = are_digits (without_leading_sign exponent)

-- the digits are those of a number, its point and the digits behind it being the second part
unfoldable pub is_mantissa : List ℕ → Bool
is_mantissa text = are_parts (before_first is_point text) (from_first is_point text)

-- the text is a number token
unfoldable pub is_number_token : List ℕ → Bool
is_number_token text = is_mantissa (mantissa text) && is_exponent (from_first is_mark text)

-- the text is a number token, with a sign or none before it
unfoldable pub is_field : List ℕ → Bool
is_field text = is_number_token (without_leading_sign text)
