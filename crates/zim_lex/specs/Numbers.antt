-- How strings are spelled, and numbers byte by byte: by a law of the proofs these are the number tokens.
use Rattle.std.specs.Prelude.{ℕ, List, [], ◌∷◌, Bool, true, false, ◌&&◌, ◌||◌, ◌==◌, if◌then◌else◌}
use Rattle.zim_lex.specs.Classes.{is_digit, begins_fraction, begins_exponent, begins_signed, is_quote}

-- no byte
abbrev pub is_nothing : List ℕ → Bool
is_nothing [] = true
is_nothing (b ∷ bs) = false

-- any digits, and then what passes
abbrev pub digits_then : (List ℕ → Bool) → List ℕ → Bool
digits_then p [] = p []
digits_then p (b ∷ bs) = if is_digit b then digits_then p bs else p (b ∷ bs)

-- one digit or more, and then what passes
abbrev pub some_digits_then : (List ℕ → Bool) → List ℕ → Bool
some_digits_then p [] = false
some_digits_then p (b ∷ bs) = is_digit b && digits_then p bs

-- digits, maybe after `+` or `-`
abbrev pub is_signed_digits : List ℕ → Bool
is_signed_digits [] = false
is_signed_digits (b ∷ bs) = if begins_signed b then some_digits_then is_nothing bs else some_digits_then is_nothing (b ∷ bs)

-- `e` or `E` and digits, maybe signed; or nothing
abbrev pub is_exponent_by_bytes : List ℕ → Bool
is_exponent_by_bytes [] = true
is_exponent_by_bytes (b ∷ bs) = begins_exponent b && is_signed_digits bs

-- `.`, digits and maybe an exponent
abbrev pub is_fraction : List ℕ → Bool
is_fraction [] = false
is_fraction (b ∷ bs) = begins_fraction b && some_digits_then is_exponent_by_bytes bs

-- what may follow the first digits of a number
abbrev pub ends_number : List ℕ → Bool
ends_number text = is_exponent_by_bytes text || is_fraction text

-- digits, maybe `.` and digits, maybe an exponent; or the same without the first digits
abbrev pub is_number_by_bytes : List ℕ → Bool
is_number_by_bytes text = some_digits_then ends_number text || is_fraction text

-- bytes other than the quote, and then the quote
abbrev pub is_closed : ℕ → List ℕ → Bool
is_closed quote [] = false
is_closed quote (b ∷ bs) = if b == quote then is_nothing bs else is_closed quote bs

-- `"`, bytes other than that and `"`; or the same with `'`
abbrev pub is_string : List ℕ → Bool
is_string [] = false
is_string (b ∷ bs) = is_quote b && is_closed b bs
