-- The least multiple of a form whose coefficients and constant are whole.
use Rattle.std.specs.Prelude.{ℕ, pos, ◌≡◌, ◌<◌, ◌≤◌, ◌≤ℤ◌, IsTrue, List, [], ◌∷◌, Result, Ok, Err}
use Rattle.std.specs.Int.{◌∣◌}
use Rattle.zim_fraction.specs.Limit.{limit}
use Rattle.zim_rational.specs.Gcd.{lcm}
use Rattle.zim_rational.specs.Rational.{whole, times, is_whole}
use Rattle.zim_linear.specs.Forms.{Term, LinearForm, ColumnNumbers, number_at}
use Rattle.zim_linear.specs.Multiples.{IsMultipleWithin, IsMultipleOf}
use Rattle.zim_linear.specs.declared.faults.LinFault.{LinFault}
use Rattle.zim_linear.specs.declared.faults.LinFault.TheVariants.{Past, Memory}
use Rattle.zim_linear.specs.declared.integers.IntegerForm.{IntegerForm}

-- the least common multiple of k and the denominators of the coefficients
unfoldable pub multiple_from : ℕ → List Term → ℕ
multiple_from k [] = k
multiple_from k (t ∷ ts) = multiple_from (lcm k t.1.denom) ts

-- the least common multiple of the denominators of the constant and of the coefficients
abbrev pub common_multiple : LinearForm → ℕ
common_multiple a = multiple_from a.constant.denom a.terms

-- the denominator of each coefficient divides k
abbrev pub AllDivide : List Term → ℕ → Type 0
AllDivide [] k = Unit {0}
AllDivide (t ∷ ts) k = (t.1.denom ∣ k) × AllDivide ts k

-- k is a multiple from 1 up of all denominators of the form, and each other such multiple is one of k
pub record IsLeastMultiple (a : LinearForm) (k : ℕ) : Type 0 where
  pub positive : 0 < k
  pub constant : a.constant.denom ∣ k
  pub coefficients : AllDivide a.terms k
  pub least : (m : ℕ) → a.constant.denom ∣ m → AllDivide a.terms m → k ∣ m

-- each coefficient is a whole number
abbrev pub AreWhole : List Term → Type 0
AreWhole [] = Unit {0}
AreWhole (t ∷ ts) = IsTrue (is_whole t.1) × AreWhole ts

-- the coefficients and the constant are whole numbers
pub record HasWholeNumbers (form : LinearForm) : Type 0 where
  pub coefficients : AreWhole form.terms
  pub constant : IsTrue (is_whole form.constant)

-- each column is a whole number
abbrev pub IsWholeAt : ColumnNumbers → Type 0
IsWholeAt x = (j : ℕ) → IsTrue (is_whole (x j))

-- each coefficient times m is a whole number
abbrev pub AreWholeTimes : ℕ → List Term → Type 0
AreWholeTimes m [] = Unit {0}
AreWholeTimes m (t ∷ ts) = IsTrue (is_whole (times t.1 (whole (pos m)))) × AreWholeTimes m ts

-- m times the form has whole numbers
pub record HasWholeMultiple (a : LinearForm) (m : ℕ) : Type 0 where
  pub coefficients : AreWholeTimes m a.terms
  pub constant : IsTrue (is_whole (times a.constant (whole (pos m))))

-- the multiple has whole numbers, so it is whole wherever the columns are, and each number from 1 whose multiple of the
-- form has whole numbers is at least k
pub record IsLeastWhole (a : LinearForm) (made : IntegerForm) : Type 0 where
  pub numbers : HasWholeNumbers made.form
  pub at_whole : (x : ColumnNumbers) → IsWholeAt x → IsTrue (is_whole (number_at x made.form))
  pub least : (m : ℕ) → 0 < m → HasWholeMultiple a m → made.k ≤ℤ pos m

-- neither the least common multiple nor a product with it is past
abbrev pub IsIntegerWithin : LinearForm → Type 0
IsIntegerWithin a = (common_multiple a ≤ limit) × IsMultipleWithin a (whole (pos (common_multiple a)))

-- the multiple, past exactly where a number of it is past; want of memory is free
abbrev pub IntegerAnswer : LinearForm → Result IntegerForm LinFault → Type 0
IntegerAnswer a (Ok made) = IsIntegerWithin a × (made.k ≡ pos (common_multiple a)) × IsMultipleOf a (whole made.k) made.form
IntegerAnswer a (Err Past) = ¬ IsIntegerWithin a
IntegerAnswer a (Err Memory) = Unit {0}
