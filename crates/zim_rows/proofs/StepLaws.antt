-- The points of a system after a step are the points before it, with numbers behind them that fit the step.
use Rattle.std.proofs.Common.{nat_le, cond, true, false, ◌+◌, Ok, Err, ℕ, ◌≡◌, Bool, IsTrue, List, [], ◌∷◌, ◌++◌, length, take, drop, map, All, arith, refl, ap, ap₂, sym, ◌∙◌, subst}
use Rattle.std.proofs.lemmas.List.{map-append, take-append-drop}
use Rattle.std.proofs.lemmas.List.Elements.{All-head, All-tail}
use Rattle.zim_rational.specs.Rational.{Rational}
use Rattle.zim_linear.specs.Forms.{ColumnNumbers}
use Rattle.zim_rows.specs.declared.rows.Column.{Column}
use Rattle.zim_rows.specs.declared.rows.GivenRow.{GivenRow}
use Rattle.zim_rows.specs.System.{LinearSystem, IsGivenRow, Extends, most_in_system}
use Rattle.zim_rows.specs.Points.{IsSystemPoint, KeepColumns, KeepsKind, Constraint, KeepConstraints, assigned, given_constraint, first_numbers}
use Rattle.zim_fault.specs.declared.faults.Fault.{Fault}
use Rattle.zim_fault.specs.declared.faults.Place.{Place}
use Rattle.zim_fault.specs.declared.kinds.Kind.TheVariants.{TooManyRows, TooManyColumns}
use Rattle.zim_rows.specs.Steps.{Step, with_step, step_placed, fault_here}
use Rattle.zim_rows.specs.Extending.{IsValid, Narrows, NarrowsTo, Widens, Fits, FitsOnce}
use Rattle.zim_rows.proofs.CutLaws.{sum_cut, point_cut}

-- a list that keeps columns has one number for each
pub each_has_number : (cs : List Column) (vs : List Rational) → KeepColumns cs vs → length vs ≡ length cs
each_has_number [] [] h = refl
each_has_number [] (v ∷ vs) h = absurd h
each_has_number (c ∷ cs) [] h = absurd h
each_has_number (c ∷ cs) (v ∷ vs) h = let e = each_has_number cs vs h.1 in omega arith

columns_joined : (cs ds : List Column) (ps vs : List Rational) → KeepColumns cs ps → KeepColumns ds vs → KeepColumns (cs ++ ds) (ps ++ vs)
columns_joined [] ds [] vs h k = k
columns_joined [] ds (p ∷ ps) vs h k = absurd h
columns_joined (c ∷ cs) ds [] vs h k = absurd h
columns_joined (c ∷ cs) ds (p ∷ ps) vs h k = (h.0, columns_joined cs ds ps vs h.1 k)

columns_after : (cs ds : List Column) (vs : List Rational) → KeepColumns (cs ++ ds) vs → KeepColumns ds (drop (length cs) vs)
columns_after [] ds vs h = h
columns_after (c ∷ cs) ds [] h = absurd h
columns_after (c ∷ cs) ds (v ∷ vs) h = columns_after cs ds vs h.1

rows_joined : (x : ColumnNumbers) (rows more : List Constraint) → KeepConstraints x rows → KeepConstraints x more → KeepConstraints x (rows ++ more)
rows_joined x [] more h k = k
rows_joined x (row ∷ rows) more h k = (h.0, rows_joined x rows more h.1 k)

rows_after : (x : ColumnNumbers) (rows more : List Constraint) → KeepConstraints x (rows ++ more) → KeepConstraints x more
rows_after x [] more h = h
rows_after x (row ∷ rows) more h = rows_after x rows more h.1

-- rows over the first columns that are kept at the first numbers are kept at all numbers
rows_further : (n : ℕ) (numbers : List Rational) (rows : List GivenRow) → All (IsGivenRow n) rows → KeepConstraints (assigned (take n numbers)) (map given_constraint rows) → KeepConstraints (assigned numbers) (map given_constraint rows)
rows_further n numbers [] each h = tt
rows_further n numbers (row ∷ rows) each h = (
  subst (KeepsKind row.kind) (sum_cut n numbers row.terms (All-head (IsGivenRow n) row rows each).columns) h.0,
  rows_further n numbers rows (All-tail (IsGivenRow n) row rows each) h.1,
)

first_of_joined : (n : ℕ) (p vs : List Rational) → length p ≡ n → take n (p ++ vs) ≡ p
first_of_joined n [] vs e = rw (sym e) refl
first_of_joined n (v ∷ p) vs e = rw (sym e) (ap (λ (r : List Rational). v ∷ r) (first_of_joined (length p) p vs refl))

pub step_extends : (system : LinearSystem) (step : Step) → Extends (with_step system step) system
step_extends system step = record {
  columns = (step.columns, refl);
  rows = (step.rows, refl);
  objective = refl;
}

-- a point and numbers that fit the step are a point after it
pub point_further : (system : LinearSystem) (step : Step) (p vs : List Rational) → IsValid system → IsSystemPoint system p → Fits step p vs → IsSystemPoint (with_step system step) (p ++ vs)
point_further system step p vs is point fits =
    let cut : p ≡ first_numbers system (p ++ vs) = sym (first_of_joined (length system.columns) p vs (each_has_number system.columns p point.columns)) in
    let before = rows_further (length system.columns) (p ++ vs) system.rows is.each_row (subst (λ (v : List Rational). KeepConstraints (assigned v) (map given_constraint system.rows)) cut point.rows) in
    record {
      columns = columns_joined system.columns step.columns p vs point.columns fits.columns;
      rows =
          subst (KeepConstraints (assigned (p ++ vs))) (sym (map-append given_constraint system.rows step.rows))
          (rows_joined (assigned (p ++ vs)) (map given_constraint system.rows) (map given_constraint step.rows) before fits.rows);
    }

-- the numbers of the step's columns at a point after it fit the step behind the point's first numbers
pub fits_after : (system : LinearSystem) (step : Step) (q : List Rational) → IsSystemPoint (with_step system step) q → Fits step (first_numbers system q) (drop (length system.columns) q)
fits_after system step q point = record {
  columns = columns_after system.columns step.columns q point.columns;
  rows =
      subst (λ (v : List Rational). KeepConstraints (assigned v) (map given_constraint step.rows)) (sym (take-append-drop (length system.columns) q))
      (rows_after (assigned q) (map given_constraint system.rows) (map given_constraint step.rows)
      (subst (KeepConstraints (assigned q)) (map-append given_constraint system.rows step.rows) point.rows));
}

-- where exactly one list of numbers fits the step behind each point that keeps what is asked, and none behind others
pub step_narrows : (system : LinearSystem) (step : Step) (asked : List Rational → Type 0) → IsValid system → ((p : List Rational) → IsSystemPoint system p → asked p → FitsOnce step p)
    → ((p vs : List Rational) → IsSystemPoint system p → Fits step p vs → asked p) → Narrows (with_step system step) system asked
step_narrows system step asked is once keeps = record {
  extends = step_extends system step;
  once =
      λ p point h.
      let fit = once p point h in
      record {
        one = p ++ fit.one;
        lengthens = record {
          point = point_further system step p fit.one is point fit.fits;
          cut = first_of_joined (length system.columns) p fit.one (each_has_number system.columns p point.columns);
        };
        only =
            λ q long.
            let after : Fits step p (drop (length system.columns) q) = subst (λ (v : List Rational). Fits step v (drop (length system.columns) q)) long.cut (fits_after system step q long.point) in
            sym (take-append-drop (length system.columns) q) ∙ ap₂ (λ (u v : List Rational). u ++ v) long.cut (fit.only (drop (length system.columns) q) after);
      };
  keeps =
      λ q point.
      keeps (first_numbers system q) (drop (length system.columns) q) (point_cut (with_step system step) system q is (step_extends system step) point) (fits_after system step q point);
}

-- the same where a test says what is asked
pub step_narrows_to : (system : LinearSystem) (step : Step) (test : List Rational → Bool) → IsValid system → ((p : List Rational) → IsSystemPoint system p → IsTrue (test p) → FitsOnce step p)
    → ((p vs : List Rational) → IsSystemPoint system p → Fits step p vs → IsTrue (test p)) → NarrowsTo (with_step system step) system test
step_narrows_to system step test = step_narrows system step (λ p. IsTrue (test p))

-- the same where nothing is asked
pub step_widens : (system : LinearSystem) (step : Step) → IsValid system → ((p : List Rational) → IsSystemPoint system p → FitsOnce step p) → Widens (with_step system step) system
step_widens system step is once = step_narrows system step (λ _. Unit {0}) is (λ p point _. once p point) (λ p vs point fits. tt)

-- where a step is placed, the system is the one with the step
pub placed_is : (place : Place) (system new : LinearSystem) (step : Step) → step_placed place system step ≡ Ok new → new ≡ with_step system step
unfolding step_placed
placed_is place system new step h =
    by (fault_here TooManyRows place) (fault_here TooManyColumns place) (nat_le (length system.columns + length step.columns) most_in_system) (nat_le (length system.rows + length step.rows) most_in_system) h
  where
    by : (f g : Fault) (b c : Bool) → cond b (cond c (Ok (with_step system step)) (Err f)) (Err g) ≡ Ok new → new ≡ with_step system step
    by f g true true e = cc
    by f g true false e = cc
    by f g false c e = cc
