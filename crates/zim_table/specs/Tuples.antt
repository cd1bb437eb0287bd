-- Numbers and tuples as a table writes them.
use Rattle.std.specs.Prelude.{ℕ, zero, suc, ◌+◌, ◌-◌, ◌*◌, Bool, ◌&&◌, ◌||◌, ◌==◌, nat_le, nat_lt, if◌then◌else◌, List, [], ◌∷◌, length, drop, Option, Some, None, option_map, option_and_then}
use Rattle.std.specs.List.{slice_split, before_first, after_first}
use Rattle.zim_rational.specs.Rational.{Rational, ratio, is_lowest}
use Rattle.zim_fields.specs.Fields.{Field}
use Rattle.zim_fields.specs.Numbers.{count_of, whole_of}

-- The fraction that stands in the parts around a slash, in lowest terms: `n`, or `n/d` where d isn't 1.
abbrev pub fraction_of_parts : List (List ℕ) → Option Rational
fraction_of_parts [] = None
fraction_of_parts (numer ∷ []) = option_map (λ n. ratio n 1) (whole_of numer)
fraction_of_parts (numer ∷ denom ∷ []) =
    option_and_then (λ n. option_and_then (λ d. if nat_lt 1 d && is_lowest n d then Some (ratio n d) else None) (count_of denom)) (whole_of numer)
fraction_of_parts (_ ∷ _ ∷ _ ∷ _) = None

-- A fraction in lowest terms: `n` or `n/d`.
abbrev pub fraction_of : List ℕ → Option Rational
fraction_of bytes = fraction_of_parts (slice_split (λ b. b == 47) bytes)

-- A component of a tuple: a number or a text.
pub data Component : Type 0 where
  NumberOf : Rational → Component
  TextOf : List ℕ → Component

-- The value of a hexadecimal digit, upper case.
abbrev pub hex_digit : ℕ → Option ℕ
hex_digit b =
    if nat_le 48 b && nat_le b 57 then Some (b - 48)
    else if nat_le 65 b && nat_le b 70 then Some (b - 55)
    else None

-- A text without its escapes: `%` and two hexadecimal digits stand for a byte.
abbrev pub unescaped : List ℕ → Option (List ℕ)
unescaped [] = Some []
unescaped (b ∷ []) = if b == 37 then None else Some (b ∷ [])
unescaped (b ∷ c ∷ []) = if b == 37 || c == 37 then None else Some (b ∷ c ∷ [])
unescaped (b ∷ c ∷ d ∷ bytes) =
    if b == 37
    then option_and_then (λ high. option_and_then (λ low. option_map (λ text. (16 * high + low) ∷ text) (unescaped bytes)) (hex_digit d)) (hex_digit c)
    else option_map (λ text. b ∷ text) (unescaped (c ∷ d ∷ bytes))

-- A byte that ends a number in a tuple: a comma or `>`.
abbrev pub ends_component : ℕ → Bool
ends_component b = b == 44 || b == 62

-- A component and the bytes behind it: a text in double quotes, which has none inside, or a number.
abbrev pub read_component : List ℕ → Option (Component × List ℕ)
read_component [] = None
read_component (b ∷ bytes) =
    if b == 34
    then option_map (λ text. (TextOf text, after_first (λ c. c == 34) bytes)) (unescaped (before_first (λ c. c == 34) bytes))
    else option_map (λ q. (NumberOf q, drop (length (before_first ends_component (b ∷ bytes))) (b ∷ bytes))) (fraction_of (before_first ends_component (b ∷ bytes)))

-- Whether a comma follows, with the bytes behind it, or `>` at the end.
pub data Next : Type 0 where
  More : List ℕ → Next
  Last : Next

-- What follows a component.
abbrev pub next_of : List ℕ → Option Next
next_of [] = None
next_of (b ∷ []) = if b == 62 then Some Last else None
next_of (b ∷ c ∷ bytes) = if b == 44 then Some (More (c ∷ bytes)) else None

-- A component and those that follow it, which are read from the bytes behind a comma.
abbrev pub with_others : (List ℕ → Option (List Component)) → Component → Next → Option (List Component)
with_others read first (More bytes) = option_map (λ (others : List Component). first ∷ others) (read bytes)
with_others read first Last = Some (first ∷ [])

-- Components with commas between them and `>` at the end; `turns` is at least their number.
abbrev pub read_components : ℕ → List ℕ → Option (List Component)
read_components zero bytes = None
read_components (suc turns) bytes =
    option_and_then
    (λ (first : Component × List ℕ). option_and_then (λ (next : Next). with_others (read_components turns) first.0 next) (next_of first.1))
    (read_component bytes)

-- A tuple: `<`, components with commas between them, `>`.
abbrev pub read_tuple : Field → Option (List Component)
read_tuple [] = None
read_tuple (b ∷ bytes) = if b == 60 then read_components (length bytes) bytes else None
