-- The classes of bytes that begin and continue the pieces of a line.
use Rattle.std.specs.Prelude.{ℕ, Bool, false, nat_le, ◌==◌, ◌&&◌, ◌||◌, List, [], ◌∷◌}

-- a blank, a tab or a carriage return
abbrev pub is_blank : ℕ → Bool
is_blank b = (b == 32) || (b == 9) || (b == 13)

-- `#`
abbrev pub begins_comment : ℕ → Bool
begins_comment b = b == 35

-- `0` to `9`
abbrev pub is_digit : ℕ → Bool
is_digit b = nat_le 48 b && nat_le b 57

-- an ASCII letter or `_`
abbrev pub begins_name : ℕ → Bool
begins_name b = (nat_le 65 b && nat_le b 90) || (nat_le 97 b && nat_le b 122) || (b == 95)

-- a letter, a digit or `_`
abbrev pub continues_name : ℕ → Bool
continues_name b = begins_name b || is_digit b

-- `.`
abbrev pub begins_fraction : ℕ → Bool
begins_fraction b = b == 46

-- a byte that a number can begin with
abbrev pub starts_number : ℕ → Bool
starts_number b = is_digit b || begins_fraction b

-- `e` or `E`
abbrev pub begins_exponent : ℕ → Bool
begins_exponent b = (b == 101) || (b == 69)

-- `+` or `-`
abbrev pub begins_signed : ℕ → Bool
begins_signed b = (b == 43) || (b == 45)

-- `"` or `'`
abbrev pub is_quote : ℕ → Bool
is_quote b = (b == 34) || (b == 39)

-- a text of which the first byte passes
abbrev pub first_is : (ℕ → Bool) → List ℕ → Bool
first_is p [] = false
first_is p (b ∷ bs) = p b
