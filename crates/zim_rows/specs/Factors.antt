-- The factor that makes numbers short, and which numbers it takes past the limit.
use Rattle.std.specs.Prelude.{ℕ, pos, ◌<◌, ◌≤◌, ◌&&◌, Bool, true, IsTrue, nat_le, List, [], ◌∷◌, ◌++◌, map, Result}
use Rattle.std.specs.Result.{OkIff}
use Rattle.std.specs.Int.{◌∣◌}
use Rattle.zim_rational.specs.Gcd.{lcm}
use Rattle.zim_rational.specs.Rational.{Rational, negate, times, whole}
use Rattle.zim_fraction.specs.Limit.{limit, is_number, is_sum_within}
use Rattle.zim_fraction.specs.declared.fault.Past.{Past}
use Rattle.zim_decimal.specs.Short.{part, is_short}
use Rattle.zim_linear.specs.Forms.{Term, LinearForm}
use Rattle.zim_rows.specs.declared.rows.RowKind.{RowKind}
use Rattle.zim_rows.specs.declared.rows.RowKind.TheVariants.{One, Range}

-- The least common multiple of k and of what is left of the numbers' denominators when all that they have in common with
-- 10^15 is taken out.
unfoldable pub factor_from : ℕ → List Rational → ℕ
factor_from k [] = k
factor_from k (q ∷ qs) = factor_from (lcm k (part q.denom)) qs

-- The factor of numbers.
abbrev pub factor_of : List Rational → ℕ
factor_of = factor_from 1

-- An answer is the factor of numbers, past exactly where that passes the limit.
abbrev pub IsFactor : List Rational → Result ℕ Past → Type 0
IsFactor numbers result = OkIff result (factor_of numbers ≤ limit) (factor_of numbers)

-- The coefficients of terms.
abbrev pub coefficients : List Term → List Rational
coefficients terms = map (λ (t : Term). t.1) terms

-- The right sides of a row.
abbrev pub right_sides : RowKind → List Rational
right_sides (One sense right) = right ∷ []
right_sides (Range low high) = low ∷ (high ∷ [])

-- The factor of a row: that of its coefficients and its right sides.
abbrev pub row_factor : List Term → RowKind → ℕ
row_factor terms kind = factor_of (coefficients terms ++ right_sides kind)

-- The factor of an objective: that of its coefficients and its constant.
abbrev pub form_factor : LinearForm → ℕ
form_factor form = factor_of (coefficients form.terms ++ form.constant ∷ [])

-- A number times the factor.
unfoldable pub times_factor : ℕ → Rational → Rational
times_factor k q = times q (whole (pos k))

-- The numbers times the factor are within the limit.
unfoldable pub all_within : ℕ → List Rational → Bool
all_within k [] = true
all_within k (q ∷ qs) = is_number (times_factor k q) && all_within k qs

-- The right sides times the factor are within the limit, and so is a range's high side less its low one.
unfoldable pub kind_within : ℕ → RowKind → Bool
kind_within k (One sense right) = is_number (times_factor k right)
kind_within k (Range low high) =
    is_number (times_factor k low) && is_number (times_factor k high) && is_sum_within (times_factor k high) (negate (times_factor k low))

-- A row isn't past: neither its factor nor a scaled number nor the difference of a range's scaled sides is.
unfoldable pub row_within : List Term → RowKind → Bool
row_within terms kind =
    nat_le (row_factor terms kind) limit && (all_within (row_factor terms kind) (coefficients terms) && kind_within (row_factor terms kind) kind)

-- An objective isn't past: neither its factor nor a scaled number is.
unfoldable pub form_within : LinearForm → Bool
form_within form =
    nat_le (form_factor form) limit && (all_within (form_factor form) (coefficients form.terms) && is_number (times_factor (form_factor form) form.constant))

-- Each of the numbers is short when it is multiplied by k.
abbrev pub AreShortTimes : ℕ → List Rational → Type 0
AreShortTimes k [] = Unit {0}
AreShortTimes k (q ∷ qs) = IsTrue (is_short (times_factor k q)) × AreShortTimes k qs

-- k is at least 1 and makes the numbers short, and each number that makes them short is a multiple of it.
pub record IsLeastFactor (numbers : List Rational) (k : ℕ) : Type 0 where
  pub positive : 0 < k
  pub short : AreShortTimes k numbers
  pub least : (m : ℕ) → AreShortTimes m numbers → k ∣ m
