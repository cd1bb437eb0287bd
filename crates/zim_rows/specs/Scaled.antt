-- What finishing a system makes of it: rows and objective times their factors, or the first fault.
use Rattle.std.specs.Prelude.{ℕ, pos, ◌≡◌, IsTrue, cond, List, [], ◌∷◌, map, Option, Some, None, Result, Ok, Err}
use Rattle.zim_fault.specs.declared.faults.Place.{Place}
use Rattle.zim_fault.specs.declared.faults.Fault.{Fault}
use Rattle.zim_fault.specs.declared.kinds.Kind.TheVariants as kinds
use Rattle.zim_fraction.specs.Limit.{is_number}
use Rattle.zim_fraction.specs.declared.fault.Past as fraction
use Rattle.zim_rational.specs.Rational.{Rational}
use Rattle.zim_linear.specs.Forms.{Term}
use Rattle.zim_linear.specs.declared.faults.LinFault.{LinFault}
use Rattle.zim_linear.specs.declared.faults.LinFault.TheVariants.{Past, Memory}
use Rattle.zim_rows.specs.declared.rows.GivenRow.{GivenRow}
use Rattle.zim_rows.specs.declared.rows.Row.{Row}
use Rattle.zim_rows.specs.declared.rows.Objective.{Objective}
use Rattle.zim_rows.specs.declared.rows.Target.{Target}
use Rattle.zim_rows.specs.declared.rows.RowKind.{RowKind}
use Rattle.zim_rows.specs.declared.rows.RowKind.TheVariants.{One, Range}
use Rattle.zim_rows.specs.declared.faults.FinishFault.{FinishFault}
use Rattle.zim_rows.specs.declared.faults.FinishFault.TheVariants as finish
use Rattle.zim_rows.specs.System.{LinearSystem}
use Rattle.zim_rows.specs.Program.{LinearProgram, no_target}
use Rattle.zim_rows.specs.Factors.{times_factor, coefficients, all_within, row_factor, form_factor, row_within, form_within}

-- A number times k, past where it passes the limit.
unfoldable pub factor_answer : ℕ → Rational → Result Rational fraction.Past
factor_answer k q = cond (is_number (times_factor k q)) (Ok (times_factor k q)) (Err (record {}))

-- A term with its coefficient times k.
abbrev pub scaled_term : ℕ → Term → Term
scaled_term k t = (t.0, times_factor k t.1)

-- Terms with their coefficients times k.
abbrev pub scaled_terms : ℕ → List Term → List Term
scaled_terms k terms = map (scaled_term k) terms

-- A row's right sides times k.
abbrev pub scaled_kind : ℕ → RowKind → RowKind
scaled_kind k (One sense right) = One sense (times_factor k right)
scaled_kind k (Range low high) = Range (times_factor k low) (times_factor k high)

-- A row with all its numbers times its factor.
abbrev pub scaled_row : GivenRow → Row
scaled_row row = record {
  from = row.from;
  factor = pos (row_factor row.terms row.kind);
  terms = scaled_terms (row_factor row.terms row.kind) row.terms;
  kind = scaled_kind (row_factor row.terms row.kind) row.kind;
}

-- An objective with all its numbers times its factor; without one, a target that minimises 0.
abbrev pub scaled_target : Option Objective → Target
scaled_target None = no_target
scaled_target (Some objective) = record {
  maximize = objective.maximize;
  place = Some objective.place;
  factor = pos (form_factor objective.form);
  terms = scaled_terms (form_factor objective.form) objective.form.terms;
  constant = times_factor (form_factor objective.form) objective.form.constant;
}

-- Terms times k, past exactly where a coefficient is. Want of memory is free.
abbrev pub ScaledTermsAnswer : ℕ → List Term → Result (List Term) LinFault → Type 0
ScaledTermsAnswer k terms (Ok made) = IsTrue (all_within k (coefficients terms)) × (made ≡ scaled_terms k terms)
ScaledTermsAnswer k terms (Err Past) = ¬ IsTrue (all_within k (coefficients terms))
ScaledTermsAnswer k terms (Err Memory) = Unit {0}

-- A row times its factor, past exactly where the row is. Want of memory is free.
abbrev pub RowAnswer : GivenRow → Result Row LinFault → Type 0
RowAnswer row (Ok made) = IsTrue (row_within row.terms row.kind) × (made ≡ scaled_row row)
RowAnswer row (Err Past) = ¬ IsTrue (row_within row.terms row.kind)
RowAnswer row (Err Memory) = Unit {0}

-- An objective times its factor, past exactly where the objective is. Want of memory is free.
abbrev pub ObjectiveAnswer : Objective → Result Target LinFault → Type 0
ObjectiveAnswer objective (Ok made) = IsTrue (form_within objective.form) × (made ≡ scaled_target (Some objective))
ObjectiveAnswer objective (Err Past) = ¬ IsTrue (form_within objective.form)
ObjectiveAnswer objective (Err Memory) = Unit {0}

-- The system with its rows and its objective times their factors.
abbrev pub scaled_program : LinearSystem → LinearProgram
scaled_program system = record {
  columns = system.columns;
  rows = map scaled_row system.rows;
  target = scaled_target system.objective;
}

-- The fault that a number passes 128 bits, at this place.
abbrev pub past_fault : Place → Fault
past_fault place = record { place = place; kind = kinds.Past }

-- The fault of the first row that is past, if there is one.
unfoldable pub rows_fault : List GivenRow → Option Fault
rows_fault [] = None
rows_fault (row ∷ rows) = cond (row_within row.terms row.kind) (rows_fault rows) (Some (past_fault row.from.place))

-- The fault of the objective, if it is past.
unfoldable pub objective_fault : Option Objective → Option Fault
objective_fault None = None
objective_fault (Some objective) = cond (form_within objective.form) None (Some (past_fault objective.place))

-- The one before the other.
abbrev pub earlier_fault : Option Fault → Option Fault → Option Fault
earlier_fault (Some fault) other = Some fault
earlier_fault None other = other

-- The first fault: rows in their order, then the objective.
abbrev pub first_fault : LinearSystem → Option Fault
first_fault system = earlier_fault (rows_fault system.rows) (objective_fault system.objective)

-- Rows times their factors, or the fault of the first that is past. Want of memory is free.
abbrev pub RowsAnswer : List GivenRow → Result (List Row) FinishFault → Type 0
RowsAnswer rows (Ok made) = (rows_fault rows ≡ None) × (made ≡ map scaled_row rows)
RowsAnswer rows (Err (finish.Fault fault)) = rows_fault rows ≡ Some fault
RowsAnswer rows (Err finish.Memory) = Unit {0}

-- An objective times its factor, or its fault where it is past. Want of memory is free.
abbrev pub TargetAnswer : Option Objective → Result Target FinishFault → Type 0
TargetAnswer objective (Ok made) = (objective_fault objective ≡ None) × (made ≡ scaled_target objective)
TargetAnswer objective (Err (finish.Fault fault)) = objective_fault objective ≡ Some fault
TargetAnswer objective (Err finish.Memory) = Unit {0}

-- What finishing answers: the scaled program exactly where nothing is past, else the first fault. Want of memory is free.
abbrev pub FinishAnswer : LinearSystem → Result LinearProgram FinishFault → Type 0
FinishAnswer system (Ok program) = (first_fault system ≡ None) × (program ≡ scaled_program system)
FinishAnswer system (Err (finish.Fault fault)) = first_fault system ≡ Some fault
FinishAnswer system (Err finish.Memory) = Unit {0}
