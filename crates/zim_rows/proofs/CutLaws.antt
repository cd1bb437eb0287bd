-- A point of a system that grew, cut to the columns that were there before, is a point of the system as it was.
use Rattle.std.proofs.Common.{ℕ, ◌≡◌, ◌<◌, ◌≤◌, ◌-◌, List, [], ◌∷◌, ◌++◌, length, map, take, Option, Some, None, IfSome, All, arith, ap, ap₂, sym, ◌∙◌, subst}
use Rattle.std.proofs.lemmas.List.{map-append, get_or-take}
use Rattle.std.proofs.lemmas.List.Elements.{All-head, All-tail}
use Rattle.zim_rational.specs.Rational.{Rational, zero, plus, times}
use Rattle.zim_linear.specs.Forms.{Term, ColumnNumbers, AreColumns, sum_at, number_at}
use Rattle.zim_linear.proofs.FormLaws.{sum_at_none, sum_at_more}
use Rattle.zim_rows.specs.declared.rows.Column.{Column}
use Rattle.zim_rows.specs.declared.rows.GivenRow.{GivenRow}
use Rattle.zim_rows.specs.declared.rows.Objective.{Objective}
use Rattle.zim_rows.specs.System.{LinearSystem, IsGivenRow, IsObjective, IsSystem, Extends}
use Rattle.zim_rows.specs.Points.{assigned, KeepColumns, Constraint, KeepsKind, KeepConstraints, given_constraint, IsSystemPoint, first_numbers, objective_number, system_objective_at}

columns_cut : (columns more : List Column) (numbers : List Rational) → KeepColumns (columns ++ more) numbers → KeepColumns columns (take (length columns) numbers)
columns_cut [] more numbers h = tt
columns_cut (c ∷ cs) more [] h = absurd h
columns_cut (c ∷ cs) more (v ∷ vs) h = (h.0, columns_cut cs more vs h.1)

pub rows_before : (x : ColumnNumbers) (rows more : List Constraint) → KeepConstraints x (rows ++ more) → KeepConstraints x rows
rows_before x [] more h = tt
rows_before x (c ∷ cs) more h = (h.0, rows_before x cs more h.1)

pub sum_cut : (n : ℕ) (numbers : List Rational) (terms : List Term) → AreColumns n terms → sum_at (assigned (take n numbers)) terms ≡ sum_at (assigned numbers) terms
sum_cut n numbers [] each = sum_at_none (assigned (take n numbers)) ∙ sym (sum_at_none (assigned numbers))
sum_cut n numbers (t ∷ ts) each =
    let some : 0 < t.0 = each.0 in
    let few : t.0 ≤ n = each.1 in
    sum_at_more (assigned (take n numbers)) t ts
    ∙ ap₂ plus (ap (times t.1) (get_or-take n numbers (t.0 - 1) zero (omega arith))) (sum_cut n numbers ts each.2)
    ∙ sym (sum_at_more (assigned numbers) t ts)

rows_cut : (n : ℕ) (numbers : List Rational) (rows : List GivenRow) → All (IsGivenRow n) rows → KeepConstraints (assigned numbers) (map given_constraint rows) → KeepConstraints (assigned (take n numbers)) (map given_constraint rows)
rows_cut n numbers [] each h = tt
rows_cut n numbers (row ∷ rows) each h = (
  subst (KeepsKind row.kind) (sym (sum_cut n numbers row.terms (All-head (IsGivenRow n) row rows each).columns)) h.0,
  rows_cut n numbers rows (All-tail (IsGivenRow n) row rows each) h.1,
)

objective_cut : (n : ℕ) (numbers : List Rational) (objective : Option Objective) → IfSome objective (IsObjective n) → objective_number (assigned (take n numbers)) objective ≡ objective_number (assigned numbers) objective
unfolding number_at
objective_cut n numbers None is = λ i. zero
objective_cut n numbers (Some o) is = ap (λ (sum : Rational). plus sum o.form.constant) (sum_cut n numbers o.form.terms is.columns)

-- its first numbers are a point of the earlier system
pub point_cut : (later earlier : LinearSystem) (numbers : List Rational) → IsSystem earlier.columns earlier.rows earlier.objective → Extends later earlier → IsSystemPoint later numbers → IsSystemPoint earlier (first_numbers earlier numbers)
point_cut later earlier numbers is more point = record {
  columns = columns_cut earlier.columns more.columns.0 numbers (subst (λ (cs : List Column). KeepColumns cs numbers) more.columns.1 point.columns);
  rows =
      rows_cut (length earlier.columns) numbers earlier.rows is.each_row
      (rows_before (assigned numbers) (map given_constraint earlier.rows) (map given_constraint more.rows.0)
      (subst (KeepConstraints (assigned numbers)) (ap (map given_constraint) more.rows.1 ∙ map-append given_constraint earlier.rows more.rows.0) point.rows));
}

-- at which the earlier objective is the later one
pub objective_of_cut : (later earlier : LinearSystem) (numbers : List Rational) → IsSystem earlier.columns earlier.rows earlier.objective → Extends later earlier → system_objective_at earlier (first_numbers earlier numbers) ≡ system_objective_at later numbers
objective_of_cut later earlier numbers is more =
    objective_cut (length earlier.columns) numbers earlier.objective is.objective_is
    ∙ ap (objective_number (assigned numbers)) (sym more.objective)
