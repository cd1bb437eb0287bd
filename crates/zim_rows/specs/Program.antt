-- The linear program that a finished system is, and what holds of it.
use Rattle.std.specs.Prelude.{ℕ, pos, ◌≡◌, ◌≤◌, ◌≤ℤ◌, false, IsTrue, List, [], length, All, None, IsNone, IfSome, unsigned_abs}
use Rattle.zim_rational.specs.Rational.{Rational, zero, negate, IsBelow}
use Rattle.zim_fraction.specs.Limit.{limit, is_number, is_sum_within}
use Rattle.zim_decimal.specs.Short.{is_short}
use Rattle.zim_linear.specs.Forms.{Term, AreTerms, AreColumns}
use Rattle.zim_rows.specs.declared.rows.Column.{Column}
use Rattle.zim_rows.specs.declared.rows.Row.{Row}
use Rattle.zim_rows.specs.declared.rows.Target.{Target}
use Rattle.zim_rows.specs.declared.rows.RowKind.{RowKind}
use Rattle.zim_rows.specs.declared.rows.RowKind.TheVariants.{One, Range}
use Rattle.zim_rows.specs.System.{IsColumn, most_in_system}

-- The columns in their order, the rows in theirs, and the objective, whose numbers are those that files take.
pub record LinearProgram : Type 0 where
  pub columns : List Column
  pub rows : List Row
  pub target : Target

-- A term whose coefficient is short.
abbrev pub IsShortTerm : Term → Type 0
IsShortTerm t = IsTrue (is_short t.1)

-- A range of short numbers: the low side is below the high one, and their difference is within the limit.
pub record IsShortRange (low high : Rational) : Type 0 where
  pub short_low : IsTrue (is_short low)
  pub short_high : IsTrue (is_short high)
  pub below : IsBelow low high
  pub difference : IsTrue (is_sum_within high (negate low))

-- The numbers of a row's kind are short, and a range is one.
abbrev pub IsShortKind : RowKind → Type 0
IsShortKind (One sense right) = IsTrue (is_short right)
IsShortKind (Range low high) = IsShortRange low high

-- A number within the limit: neither its numerator nor its denominator passes it.
abbrev pub IsWithin : Rational → Type 0
IsWithin q = IsTrue (is_number q)

-- A term whose coefficient is within the limit.
abbrev pub IsTermWithin : Term → Type 0
IsTermWithin t = IsWithin t.1

-- The right side of a row, or both sides of a range, are within the limit.
abbrev pub IsKindWithin : RowKind → Type 0
IsKindWithin (One sense right) = IsWithin right
IsKindWithin (Range low high) = IsWithin low × IsWithin high

-- The finite sides of a column are within the limit.
pub record HasSidesWithin (column : Column) : Type 0 where
  pub low : IfSome column.sides.low IsWithin
  pub high : IfSome column.sides.high IsWithin

-- A row over n columns: its terms are in column order, none with coefficient 0, its numbers are short and within the limit,
-- and its factor is from 1 to the limit.
pub record IsRow (n : ℕ) (row : Row) : Type 0 where
  pub factor : pos 1 ≤ℤ row.factor
  pub factor_within : unsigned_abs row.factor ≤ limit
  pub terms : AreTerms row.terms
  pub columns : AreColumns n row.terms
  pub short : All IsShortTerm row.terms
  pub kind : IsShortKind row.kind
  pub terms_within : All IsTermWithin row.terms
  pub kind_within : IsKindWithin row.kind

-- What a target is where there is no objective.
abbrev pub no_target : Target
no_target = record { maximize = false; place = None; factor = pos 1; terms = []; constant = zero }

-- An objective over n columns, by the same rule; without one it minimises 0.
pub record IsTarget (n : ℕ) (target : Target) : Type 0 where
  pub factor : pos 1 ≤ℤ target.factor
  pub factor_within : unsigned_abs target.factor ≤ limit
  pub terms : AreTerms target.terms
  pub columns : AreColumns n target.terms
  pub short : All IsShortTerm target.terms
  pub short_constant : IsTrue (is_short target.constant)
  pub terms_within : All IsTermWithin target.terms
  pub constant_within : IsWithin target.constant
  pub minimises : IsNone target.place → target.maximize ≡ false
  pub unscaled : IsNone target.place → target.factor ≡ pos 1
  pub no_terms : IsNone target.place → target.terms ≡ []
  pub no_constant : IsNone target.place → target.constant ≡ zero

-- What holds of every finished system.
pub record IsProgram (columns : List Column) (rows : List Row) (target : Target) : Type 0 where
  pub few_columns : length columns ≤ most_in_system
  pub few_rows : length rows ≤ most_in_system
  pub each_column : All IsColumn columns
  pub sides_within : All HasSidesWithin columns
  pub each_row : All (IsRow (length columns)) rows
  pub objective : IsTarget (length columns) target
