-- The numbers of an LP text: an optional minus, digits, and optionally a point and digits.
use Rattle.std.specs.Prelude.{ℕ, ◌^◌, pos, Bool, not, ◌&&◌, ◌==◌, if◌then◌else◌, List, [], ◌∷◌, ◌++◌, length, drop, Option, Some, None, option_map}
use Rattle.std.specs.Str.{all_ascii_digits}
use Rattle.std.specs.Str.Parse.{digits_value, starts_with_minus}
use Rattle.std.specs.List.{slice_split}
use Rattle.zim_rational.specs.Rational.{Rational, ratio, negate}
use Rattle.zim_lp.specs.Words.{Word, is_empty_word}

-- One digit or more.
abbrev pub is_digit_word : List ℕ → Bool
is_digit_word bytes = not (is_empty_word bytes) && all_ascii_digits bytes

-- The number that stands in the parts around points, of which there is one at most: the digits of both parts,
-- with as many of them behind the point as the second part has.
abbrev pub number_around_points : List (List ℕ) → Option Rational
number_around_points [] = None
number_around_points (digits ∷ []) = if is_digit_word digits then Some (ratio (pos (digits_value 10 digits)) 1) else None
number_around_points (digits ∷ behind ∷ []) =
    if is_digit_word digits && is_digit_word behind then Some (ratio (pos (digits_value 10 (digits ++ behind))) (10 ^ length behind)) else None
number_around_points (_ ∷ _ ∷ _ ∷ _) = None

-- The number that a word without a minus is, if it is one.
abbrev pub unsigned_number : Word → Option Rational
unsigned_number word = number_around_points (slice_split (λ b. b == 46) word)

-- The number that a word is, if it is one.
abbrev pub number_of_word : Word → Option Rational
number_of_word word =
    if starts_with_minus word then option_map negate (unsigned_number (drop 1 word)) else unsigned_number word
