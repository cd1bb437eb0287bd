-- What it means that a constraint is asked under a guard.
use Rattle.std.specs.Prelude.{◌≡◌, ◌<◌, ◌≤◌, IsTrue, Bool, List, length, Some, None, IfSome}
use Rattle.zim_linear.specs.Forms.{number_at}
use Rattle.zim_rational.specs.Rational.{Rational, one}
use Rattle.zim_rows.specs.System.{LinearSystem, column_at}
use Rattle.zim_rows.specs.Points.{IsSystemPoint, assigned, first_numbers}
use Rattle.zim_rows.specs.Covered.{IsCovered}
use Rattle.zim_rows.specs.Steps.{binary}
use Rattle.zim_rows.specs.Extending.{IsValid, Narrows}
use Rattle.zim_logic_rows.specs.declared.Literal.{Literal}
use Rattle.zim_logic_rows.specs.Literals.{is}
use Rattle.zim_vif.specs.Constraints.{Guard}

-- A literal of a system: its column is one of the system's, and a binary one.
pub record IsLiteralOf (system : LinearSystem) (l : Literal) : Type 0 where
  pub from_one : 0 < l.column
  pub in_columns : l.column ≤ length system.columns
  pub is_binary : column_at system.columns l.column ≡ binary

-- Where a guard has a literal, it is one of the system.
abbrev pub IsGuardOf : LinearSystem → Guard → Type 0
IsGuardOf system guard = IfSome guard (IsLiteralOf system)

-- A guard is on at a point where its literal is 1. Without a literal it is on at each point.
abbrev pub IsGuardOn : Guard → List Rational → Type 0
IsGuardOn None p = Unit {0}
IsGuardOn (Some l) p = number_at (assigned p) (is l) ≡ one

-- From a system, one in which a constraint is asked under a guard. A point of the system before at which the guard is off or the constraint is true
-- is the beginning of exactly one point of the system after; each point of the system after begins with such a point. A covered system stays covered.
pub record AskedUnder (before : LinearSystem) (guard : Guard) (truth : List Rational → Bool) (after : LinearSystem) : Type 0 where
  pub valid : IsValid after
  pub narrows : Narrows after before (λ p. IsGuardOn guard p → IsTrue (truth p))
  pub cut : (q : List Rational) → IsSystemPoint after q → IsSystemPoint before (first_numbers before q)
  pub covered : IsCovered before → IsCovered after
