-- The numbers that fields are, each in its one spelling.
use Rattle.std.specs.Prelude.{ℕ, ℤ, pos, neg_ℤ, Bool, true, false, not, ◌&&◌, ◌==◌, if◌then◌else◌, List, [], ◌∷◌, drop, Option, Some, None, option_map, option_and_then}
use Rattle.std.specs.Str.{all_ascii_digits}
use Rattle.std.specs.Str.Parse.{digits_value, starts_with_minus}
use Rattle.zim_fields.specs.Fields.{Field}

-- There is a digit, and no 0 stands before another one.
abbrev pub is_one_spelling : List ℕ → Bool
is_one_spelling [] = false
is_one_spelling (d ∷ []) = true
is_one_spelling (d ∷ _ ∷ _) = not (d == 48)

-- The number that one digit or more are.
abbrev pub count_of : List ℕ → Option ℕ
count_of bytes = if is_one_spelling bytes && all_ascii_digits bytes then Some (digits_value 10 bytes) else None

-- A number other than 0.
abbrev pub above_zero : ℕ → Option ℕ
above_zero n = if n == 0 then None else Some n

-- The number from 1 that digits are.
abbrev pub from_one_of : List ℕ → Option ℕ
from_one_of bytes = option_and_then above_zero (count_of bytes)

-- A whole number: digits, and a minus before them where it is below 0.
abbrev pub whole_of : Field → Option ℤ
whole_of field =
    if starts_with_minus field then option_map (λ n. neg_ℤ (pos n)) (from_one_of (drop 1 field)) else option_map (λ n. pos n) (count_of field)
