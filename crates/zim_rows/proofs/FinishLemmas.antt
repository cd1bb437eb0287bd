-- What finishing made is the scaled program of the system, by what its parts answered.
use Rattle.std.proofs.Common.{ℕ, ◌≡◌, ◌↔◌, Bool, List, length, map, Option, None, All, ap, ap₂, sym, ◌∙◌, subst}
use Rattle.zim_rational.specs.Rational.{Rational, times, whole}
use Rattle.zim_linear.specs.declared.sides.Sides.{Sides}
use Rattle.zim_rows.specs.declared.rows.Column.{Column}
use Rattle.zim_rows.specs.declared.rows.GivenRow.{GivenRow}
use Rattle.zim_rows.specs.declared.rows.Row.{Row}
use Rattle.zim_rows.specs.declared.rows.Objective.{Objective}
use Rattle.zim_rows.specs.declared.rows.Target.{Target}
use Rattle.zim_rows.specs.System.{LinearSystem, columns_of, IsSystem, IsKeptSystem}
use Rattle.zim_rows.specs.Program.{LinearProgram, HasSidesWithin, IsProgram}
use Rattle.zim_rows.specs.Points.{IsSystemPoint, IsPoint, system_objective_at, objective_at}
use Rattle.zim_rows.specs.Scaled.{scaled_row, scaled_target, scaled_program, rows_fault, objective_fault}
use Rattle.zim_rows.specs.Covered.{IsCovered, written_program}
use Rattle.zim_rows.specs.Entries.{IsOverRow}
use Rattle.zim_rows.proofs.EntryLemmas.{rows_over}
use Rattle.zim_rows.proofs.RowLemmas.{finished_rows, finished_program}
use Rattle.zim_rows.proofs.PointLemmas.{same_points, objective_times}
use Rattle.zim_rows.proofs.CoveredLemmas.{covered_points}

-- the parts that were made are those of the scaled program, no row is past, and the columns' sides are within the limit
pub record IsFinishing (system : LinearSystem) (columns : List Column) (made : List Row) (target : Target) : Type 0 where
  pub is : IsSystem system.columns system.rows system.objective
  pub columns_are : columns ≡ system.columns
  pub sides_within : All HasSidesWithin columns
  pub rows_are : (rows_fault system.rows ≡ None) × (made ≡ map scaled_row system.rows)
  pub target_is : (objective_fault system.objective ≡ None) × (target ≡ scaled_target system.objective)

pub finishing : (system : LinearSystem) (marks ms : List Bool) (sides ss : List Sides) (rows rs : List GivenRow) (objective : Option Objective) (columns : List Column) (made : List Row) (target : Target) → IsKeptSystem marks sides rows objective → ◌≡◌ {A = LinearSystem} (record { columns = columns_of marks sides; rows = rows; objective = objective }) system → rs ≡ rows → (rows_fault rs ≡ None) × (made ≡ map scaled_row rs) → (objective_fault objective ≡ None) × (target ≡ scaled_target objective) → ms ≡ marks → ss ≡ sides → columns ≡ columns_of ms ss → All HasSidesWithin columns → IsFinishing system columns made target
finishing system marks ms sides ss rows rs objective columns made target kept view slice rows_made target_made e f columns_made within =
    let all : rs ≡ system.rows = slice ∙ ap (λ (s : LinearSystem). s.rows) view in
    record {
      is = subst (λ (s : LinearSystem). IsSystem s.columns s.rows s.objective) view kept.system;
      columns_are = columns_made ∙ ap₂ columns_of e f ∙ ap (λ (s : LinearSystem). s.columns) view;
      sides_within = within;
      rows_are = subst (λ (xs : List GivenRow). (rows_fault xs ≡ None) × (made ≡ map scaled_row xs)) all rows_made;
      target_is = subst (λ (o : Option Objective). (objective_fault o ≡ None) × (target ≡ scaled_target o)) (ap (λ (s : LinearSystem). s.objective) view) target_made;
    }

abbrev pub program_from : List Column → List Row → Target → LinearProgram
program_from columns made target = record { columns = columns; rows = made; target = target }

scaled_all : (system : LinearSystem) (columns : List Column) (made : List Row) (target : Target) → IsFinishing system columns made target → program_from columns made target ≡ scaled_program system
scaled_all system columns made target f =
    let rows = f.rows_are.1 in
    let aim = f.target_is.1 in
    λ i. record { columns = f.columns_are i; rows = rows i; target = aim i }

pub over_rows : (system : LinearSystem) (columns : List Column) (made slice : List Row) (target : Target) (n : ℕ) → IsFinishing system columns made target → n ≡ length columns → slice ≡ made → All (IsOverRow n) slice
over_rows system columns made slice target n f e same =
    subst
    (λ (rs : List Row). All (IsOverRow n) rs)
    (sym same)
    (rows_over n made (finished_rows system.columns system.rows system.objective n made f.is (e ∙ ap length f.columns_are) f.rows_are))

pub program_is : (system : LinearSystem) (columns : List Column) (made : List Row) (target : Target) → IsFinishing system columns made target → IsProgram columns made target
program_is system columns made target f =
    finished_program system.columns columns system.rows system.objective made target f.is f.columns_are f.sides_within f.rows_are f.target_is

pub points_are : (system : LinearSystem) (columns : List Column) (made : List Row) (target : Target) → IsFinishing system columns made target → (numbers : List Rational) → IsPoint (program_from columns made target) numbers ↔ IsSystemPoint system numbers
points_are system columns made target f numbers =
    subst
    (λ (p : LinearProgram). IsPoint p numbers ↔ IsSystemPoint system numbers)
    (sym (scaled_all system columns made target f))
    (same_points system numbers)

pub objective_is : (system : LinearSystem) (columns : List Column) (made : List Row) (target : Target) → IsFinishing system columns made target → (numbers : List Rational) → objective_at (program_from columns made target) numbers ≡ times (system_objective_at system numbers) (whole target.factor)
objective_is system columns made target f numbers =
    subst
    (λ (p : LinearProgram). objective_at p numbers ≡ times (system_objective_at system numbers) (whole p.target.factor))
    (sym (scaled_all system columns made target f))
    (objective_times system numbers)

pub covered_are : (system : LinearSystem) (columns : List Column) (made : List Row) (target : Target) → IsFinishing system columns made target → IsCovered system → (numbers : List Rational) → IsPoint (written_program (program_from columns made target)) numbers ↔ IsSystemPoint system numbers
covered_are system columns made target f covered numbers =
    subst
    (λ (p : LinearProgram). IsPoint (written_program p) numbers ↔ IsSystemPoint system numbers)
    (sym (scaled_all system columns made target f))
    (covered_points system numbers covered)
