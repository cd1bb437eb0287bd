-- The number that a decimal text is: a minus or none, digits, and perhaps a point and digits behind it.
use Rattle.std.specs.Prelude.{ℕ, ◌^◌, pos, ◌++◌, ◌&&◌, if◌then◌else◌, List, [], ◌∷◌, length, drop, Option, Some, None, option_map}
use Rattle.std.specs.List.{before_first}
use Rattle.std.specs.Str.Parse.{digits_value, starts_with_minus}
use Rattle.zim_rational.specs.Rational.{Rational, ratio, negate}
use Rattle.zim_decimal.specs.Token.{are_digits, is_point, from_first}

-- the number of digits before a point, and of the point and the digits behind it where there are some
abbrev pub number_of_parts : List ℕ → List ℕ → Option Rational
number_of_parts whole [] = if are_digits whole then Some (ratio (pos (digits_value 10 whole)) 1) else None
number_of_parts whole (point ∷ behind) =
    if are_digits whole && are_digits behind then Some (ratio (pos (digits_value 10 (whole ++ behind))) (10 ^ length behind)) else None

-- the number that a text without a minus is
abbrev pub number_without_sign : List ℕ → Option Rational
number_without_sign text = number_of_parts (before_first is_point text) (from_first is_point text)

-- the number that a decimal text is, if it is one
unfoldable pub number_of_text : List ℕ → Option Rational
number_of_text text =
    if starts_with_minus text then option_map negate (number_without_sign (drop 1 text)) else number_without_sign text
