-- Finishing a system keeps its points, and multiplies its objective by the factor.
use Rattle.std.proofs.Common.{ℕ, pos, ◌≡◌, ◌<◌, ◌↔◌, List, [], ◌∷◌, ◌++◌, map, Option, Some, None, arith, ap, sym, ◌∙◌, subst}
use Rattle.zim_rational.specs.Rational.{Rational, zero, whole, plus, times}
use Rattle.zim_rational.proofs.Ring.{plus_times, plus_zero}
use Rattle.zim_linear.specs.Forms.{Term, LinearForm, ColumnNumbers, sum_at, number_at}
use Rattle.zim_linear.proofs.FormLaws.{sum_at_none}
use Rattle.zim_rows.specs.declared.rows.GivenRow.{GivenRow}
use Rattle.zim_rows.specs.declared.rows.Objective.{Objective}
use Rattle.zim_rows.specs.declared.rows.RowKind.{RowKind}
use Rattle.zim_rows.specs.System.{LinearSystem}
use Rattle.zim_rows.specs.Points.{assigned, KeepsKind, KeepConstraints, given_constraint, constraint, IsSystemPoint, IsPoint, objective_number, system_objective_at, objective_at}
use Rattle.zim_rows.specs.Factors.{times_factor, coefficients, right_sides, row_factor, form_factor}
use Rattle.zim_rows.specs.Scaled.{scaled_terms, scaled_kind, scaled_row, scaled_target, scaled_program}
use Rattle.zim_rows.proofs.FactorLemmas.{factor-pos}
use Rattle.zim_rows.proofs.ScaleLemmas.{sum_scaled, kept_scaled, scaled_zero}

pub row_factor-pos : (terms : List Term) (kind : RowKind) → 0 < row_factor terms kind
row_factor-pos terms kind = factor-pos 1 (coefficients terms ++ right_sides kind) (omega arith)

pub form_factor-pos : (form : LinearForm) → 0 < form_factor form
form_factor-pos form = factor-pos 1 (coefficients form.terms ++ form.constant ∷ []) (omega arith)

-- terms and a kind times one factor ask for the same
pub same_row : (x : ColumnNumbers) (k : ℕ) (terms : List Term) (kind : RowKind) → 0 < k → KeepsKind (scaled_kind k kind) (sum_at x (scaled_terms k terms)) ↔ KeepsKind kind (sum_at x terms)
same_row x k terms kind some = (
  λ h. (kept_scaled k kind (sum_at x terms) some).0 (subst (KeepsKind (scaled_kind k kind)) (sum_scaled x k terms) h),
  λ h. subst (KeepsKind (scaled_kind k kind)) (sym (sum_scaled x k terms)) ((kept_scaled k kind (sum_at x terms) some).1 h),
)

pub same_rows : (x : ColumnNumbers) (rows : List GivenRow) → KeepConstraints x (map constraint (map scaled_row rows)) ↔ KeepConstraints x (map given_constraint rows)
same_rows x [] = (λ h. h, λ h. h)
same_rows x (row ∷ rows) =
    let first = same_row x (row_factor row.terms row.kind) row.terms row.kind (row_factor-pos row.terms row.kind) in
    let rest = same_rows x rows in
    (λ h. (first.0 h.0, rest.0 h.1), λ h. (first.1 h.0, rest.1 h.1))

-- the points of a system are those of its scaled program
pub same_points : (system : LinearSystem) (numbers : List Rational) → IsPoint (scaled_program system) numbers ↔ IsSystemPoint system numbers
same_points system numbers =
    let rows = same_rows (assigned numbers) system.rows in (
      λ p. record { columns = p.columns; rows = rows.0 p.rows },
      λ p. record { columns = p.columns; rows = rows.1 p.rows },
    )

-- the number of the scaled objective is the factor times that of the objective
pub scaled_objective : (x : ColumnNumbers) (objective : Option Objective) → plus (sum_at x (scaled_target objective).terms) (scaled_target objective).constant ≡ times (objective_number x objective) (whole (scaled_target objective).factor)
unfolding times_factor number_at
scaled_objective x None = ap (λ (n : Rational). plus n zero) (sum_at_none x) ∙ plus_zero zero ∙ sym (scaled_zero 1)
scaled_objective x (Some o) =
    ap (λ (n : Rational). plus n (times_factor (form_factor o.form) o.form.constant)) (sum_scaled x (form_factor o.form) o.form.terms)
    ∙ sym (plus_times (sum_at x o.form.terms) o.form.constant (whole (pos (form_factor o.form))))

pub objective_times : (system : LinearSystem) (numbers : List Rational) → objective_at (scaled_program system) numbers ≡ times (system_objective_at system numbers) (whole (scaled_target system.objective).factor)
objective_times system numbers = scaled_objective (assigned numbers) system.objective
