-- What a step makes of a valid system is valid, where it is placed and its columns and rows are such.
use Rattle.std.proofs.Common.{ℕ, ◌≡◌, ◌≤◌, ◌+◌, Bool, true, false, cond, nat_le, IfSome, List, [], ◌∷◌, ◌++◌, length, length-append, map, Option, Some, None, Ok, Err, All, arith, refl, sym, subst}
use Rattle.std.proofs.lemmas.Bool.{leb-true}
use Rattle.std.proofs.lemmas.List.Elements.{All-append, All-head, All-tail, All-cons, All-nil}
use Rattle.zim_fault.specs.declared.faults.Fault.{Fault}
use Rattle.zim_fault.specs.declared.faults.Place.{Place}
use Rattle.zim_fault.specs.declared.kinds.Kind.TheVariants.{TooManyRows, TooManyColumns}
use Rattle.zim_rational.specs.Rational.{Rational}
use Rattle.zim_linear.specs.Forms.{Term, LinearForm, AreColumns}
use Rattle.zim_rows.specs.declared.rows.GivenRow.{GivenRow}
use Rattle.zim_rows.specs.declared.rows.Objective.{Objective}
use Rattle.zim_rows.specs.declared.rows.RowFrom.{RowFrom}
use Rattle.zim_rows.specs.declared.rows.Sense.{Sense}
use Rattle.zim_rows.specs.System.{LinearSystem, IsColumn, IsGivenRow, IsObjective, most_in_system}
use Rattle.zim_rows.specs.declared.steps.NewRow.{NewRow}
use Rattle.zim_rows.specs.Steps.{Step, with_step, step_placed, fault_here, given_row, IsNewRow}
use Rattle.zim_rows.specs.Extending.{IsValid}
use Rattle.zim_forms.proofs.OverLaws.{IsOver}
use Rattle.zim_logic_rows.specs.LogicRows.{compared_row}

pub columns_more : (m n : ℕ) (ts : List Term) → m ≤ n → AreColumns m ts → AreColumns n ts
columns_more m n [] le h = tt
columns_more m n (t ∷ ts) le h = let few : t.0 ≤ m = h.1 in (h.0, omega arith, columns_more m n ts le h.2)

rows_more : (m n : ℕ) (rows : List GivenRow) → m ≤ n → All (IsGivenRow m) rows → All (IsGivenRow n) rows
rows_more m n [] le each = All-nil (IsGivenRow n)
rows_more m n (row ∷ rows) le each =
    let is = All-head (IsGivenRow m) row rows each in
    All-cons (IsGivenRow n) row rows (record { terms = is.terms; columns = columns_more m n row.terms le is.columns; kind = is.kind }) (rows_more m n rows le (All-tail (IsGivenRow m) row rows each))

objective_more : (m n : ℕ) (objective : Option Objective) → m ≤ n → IfSome objective (IsObjective m) → IfSome objective (IsObjective n)
objective_more m n None le is = tt
objective_more m n (Some o) le is = record { terms = is.terms; columns = columns_more m n o.form.terms le is.columns }

room : (place : Place) (s : LinearSystem) (step : Step) (after : LinearSystem) → step_placed place s step ≡ Ok after → (length s.columns + length step.columns ≤ most_in_system) × (length s.rows + length step.rows ≤ most_in_system)
unfolding step_placed
room place s step after h =
    let (a, b) = by (nat_le (length s.columns + length step.columns) most_in_system) (nat_le (length s.rows + length step.rows) most_in_system) (fault_here TooManyRows place) (fault_here TooManyColumns place) h in
    (leb-true _ most_in_system a, leb-true _ most_in_system b) where
      by : (c r : Bool) (f g : Fault) → cond c (cond r (Ok (with_step s step)) (Err f)) (Err g) ≡ Ok after → (c ≡ true) × (r ≡ true)
      by true true f g e = (refl, refl)
      by true false f g e = cc
      by false r f g e = cc

pub step_valid : (place : Place) (s : LinearSystem) (step : Step) (after : LinearSystem) → IsValid s → All IsColumn step.columns → All (IsGivenRow (length s.columns + length step.columns)) step.rows → step_placed place s step ≡ Ok after → IsValid (with_step s step)
step_valid place s step after is columns rows h =
    let (some, more) = room place s step after h in
    let size = length-append s.columns step.columns in
    let rows_size = length-append s.rows step.rows in
    record {
      few_columns = omega arith;
      few_rows = omega arith;
      each_column = All-append IsColumn s.columns step.columns is.each_column columns;
      each_row =
          subst (λ (n : ℕ). All (IsGivenRow n) (s.rows ++ step.rows)) (sym size)
          (All-append (IsGivenRow (length s.columns + length step.columns)) s.rows step.rows (rows_more (length s.columns) (length s.columns + length step.columns) s.rows (omega arith) is.each_row) rows);
      objective_is = objective_more (length s.columns) (length (s.columns ++ step.columns)) s.objective (omega arith) is.objective_is;
    }

-- a row by a form
pub row_is : (n : ℕ) (source : RowFrom) (f : LinearForm) (sense : Sense) (right : Rational) → IsOver n f → IsGivenRow n (compared_row source f sense right)
row_is n source f sense right over = record { terms = over.ordered; columns = over.columns; kind = tt }

-- rows that code makes are new rows where what the system has of them are its rows
pub new_rows : (n : ℕ) (rows : List NewRow) → All (IsGivenRow n) (map given_row rows) → All (IsNewRow n) rows
new_rows n [] each = All-nil (IsNewRow n)
new_rows n (row ∷ rows) each =
    let is = All-head (IsGivenRow n) (given_row row) (map given_row rows) each in
    All-cons (IsNewRow n) row rows (record { columns = is.columns; kind = is.kind }) (new_rows n rows (All-tail (IsGivenRow n) (given_row row) (map given_row rows) each))
