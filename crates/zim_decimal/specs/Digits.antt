-- What the code keeps of a number's digits.
use Rattle.std.specs.Prelude.{ℕ, ◌≡◌, nat_le, cond, List, Option, Some, None}
use Rattle.zim_fraction.specs.Limit.{limit}
use Rattle.zim_decimal.specs.Literal.{significand, last_zeros}

-- a number where it is within the limit
abbrev pub within : ℕ → Option ℕ
within n = cond (nat_le n limit) (Some n) None

-- the digits are counted: their number without the zeros at their end, where it is within the limit, and these zeros
pub record IsCounted (digits : List ℕ) (value : Option ℕ) (zeros : ℕ) : Type 0 where
  pub value_is : value ≡ within (significand digits)
  pub zeros_are : zeros ≡ last_zeros digits
