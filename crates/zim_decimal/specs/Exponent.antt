-- The exponent as the code keeps it: one that is far past whatever digits stand before it stands for all such.
use Rattle.std.specs.Prelude.{ℕ, ℤ, pos, neg_ℤ, min, cond, List}
use Rattle.std.specs.Str.Parse.{digits_value, starts_with_minus, without_leading_sign}

-- 10^30
abbrev pub cap : ℕ
cap = 1000000000000000000000000000000

-- the number that digits are, at most 10^30
abbrev pub capped : List ℕ → ℕ
capped digits = min (digits_value 10 digits) cap

-- the exponent with its sign, its size at most 10^30
abbrev pub capped_exponent : List ℕ → ℤ
capped_exponent text =
    cond (starts_with_minus text) (neg_ℤ (pos (capped (without_leading_sign text)))) (pos (capped (without_leading_sign text)))
