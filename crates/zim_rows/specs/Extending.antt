-- What encoding steps do to the points of a system.
use Rattle.std.specs.Prelude.{ℕ, ◌≡◌, ◌<◌, ◌≤◌, ◌+◌, Bool, IsTrue, IfSome, List, ◌++◌, length, map}
use Rattle.zim_rational.specs.Rational.{Rational}
use Rattle.zim_decimal.specs.Short.{is_short}
use Rattle.zim_rows.specs.declared.rows.Column.{Column}
use Rattle.zim_rows.specs.System.{LinearSystem, Extends, column_at, IsSystem}
use Rattle.zim_rows.specs.Points.{IsSystemPoint, first_numbers, KeepColumns, KeepConstraints, assigned, given_constraint}
use Rattle.zim_rows.specs.Covered.{IsCoveredColumn}
use Rattle.zim_rows.specs.Steps.{Step}

-- What holds of a system.
abbrev pub IsValid : LinearSystem → Type 0
IsValid system = IsSystem system.columns system.rows system.objective

-- q is a point of the later system, and its first numbers, as many as the earlier one has columns, are p.
pub record Lengthens (later earlier : LinearSystem) (p q : List Rational) : Type 0 where
  pub point : IsSystemPoint later q
  pub cut : first_numbers earlier q ≡ p

-- Exactly one point of the later system begins with p.
pub record ExtendsOnce (later earlier : LinearSystem) (p : List Rational) : Type 0 where
  pub one : List Rational
  pub lengthens : Lengthens later earlier p one
  pub only : (q : List Rational) → Lengthens later earlier p q → q ≡ one

-- The later system extends the earlier one. A point of the earlier one that keeps what is asked is the beginning of exactly one point of the
-- later one, and each point of the later one begins with such a point.
pub record Narrows (later earlier : LinearSystem) (asked : List Rational → Type 0) : Type 0 where
  pub extends : Extends later earlier
  pub once : (p : List Rational) → IsSystemPoint earlier p → asked p → ExtendsOnce later earlier p
  pub keeps : (q : List Rational) → IsSystemPoint later q → asked (first_numbers earlier q)

-- The same where a test says what is asked.
abbrev pub NarrowsTo : LinearSystem → LinearSystem → (List Rational → Bool) → Type 0
NarrowsTo later earlier test = Narrows later earlier (λ p. IsTrue (test p))

-- The same where nothing is asked: each point of the earlier system is the beginning of exactly one point of the later one.
abbrev pub Widens : LinearSystem → LinearSystem → Type 0
Widens later earlier = Narrows later earlier (λ _. Unit {0})

-- Numbers of a step's columns that keep these columns, and with the numbers of a point before them the step's rows.
pub record Fits (step : Step) (p vs : List Rational) : Type 0 where
  pub columns : KeepColumns step.columns vs
  pub rows : KeepConstraints (assigned (p ++ vs)) (map given_constraint step.rows)

-- Behind p exactly one list of numbers fits the step.
pub record FitsOnce (step : Step) (p : List Rational) : Type 0 where
  pub one : List Rational
  pub fits : Fits step p one
  pub only : (vs : List Rational) → Fits step p vs → vs ≡ one

-- A column has no side that isn't short.
pub record HasShortSides (column : Column) : Type 0 where
  pub low : IfSome column.sides.low (λ l. IsTrue (is_short l))
  pub high : IfSome column.sides.high (λ h. IsTrue (is_short h))

-- Each side of the step's columns that isn't short stands as a row among the step's rows. The columns of the system before are numbered before
-- those of the step.
abbrev pub IsCoveredStep : LinearSystem → Step → Type 0
IsCoveredStep system step = (j : ℕ) → 0 < j → j ≤ length step.columns → IsCoveredColumn step.rows (length system.columns + j) (column_at step.columns j)
