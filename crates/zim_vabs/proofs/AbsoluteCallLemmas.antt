-- What the calls for absolute values make is their step.
use Rattle.std.proofs.Common.{ℕ, pos, ◌≡◌, ◌≢◌, ◌+◌, List, [], ◌∷◌, length, map, Result, Ok, All, arith, ap, sym, ◌∙◌, subst}
use Rattle.std.proofs.lemmas.List.Elements.{All-cons, All-nil}
use Rattle.zim_answer.specs.Answer.{◌>>=◌}
use Rattle.zim_answer.specs.Gives.{Stops}
use Rattle.zim_answer.proofs.BindLemmas.{bind_gave}
use Rattle.zim_answer.proofs.GivesLemmas.{Stops-bind}
use Rattle.zim_fault.specs.declared.faults.Fault.{Fault}
use Rattle.zim_rational.specs.Rational.{Rational, zero, one, whole}
use Rattle.zim_rational.proofs.Parts.{whole_different}
use Rattle.zim_linear.specs.Forms.{LinearForm, AreColumns}
use Rattle.zim_linear.specs.Integers.{common_multiple}
use Rattle.zim_linear.proofs.WholeEndLaws.{multiple_some}
use Rattle.zim_forms.specs.Exact.{exact_quotient}
use Rattle.zim_forms.specs.Algebra.{◌⊙◌, the, IsBehind}
use Rattle.zim_rows.specs.declared.rows.Column.{Column}
use Rattle.zim_rows.specs.declared.rows.RowFrom.{RowFrom}
use Rattle.zim_rows.specs.declared.steps.NewRow.{NewRow}
use Rattle.zim_rows.specs.declared.faults.EncodeFault.{EncodeFault}
use Rattle.zim_rows.specs.System.{LinearSystem, IsColumn, IsGivenRow}
use Rattle.zim_rows.specs.Steps.{Step, step_placed, binary, encode_cause, step_of, given_row, IsNewRow}
use Rattle.zim_rows.specs.Extending.{IsValid}
use Rattle.zim_logic_rows.specs.declared.Ranged.{Ranged}
use Rattle.zim_logic_rows.specs.Absolute.{size_column, absolute_step}
use Rattle.zim_logic_rows.specs.LogicRows.{next_number}
use Rattle.zim_logic_rows.proofs.ValidLaws.{new_rows}
use Rattle.zim_vabs.specs.IntegerForms.{ranged_at}
use Rattle.zim_vabs.specs.Terms.{absolute_numbers, absolute_of}
use Rattle.zim_vabs.proofs.RangedLaws.{IsRangedOf, ranged_is, past_gave}
use Rattle.zim_vabs.proofs.AbsoluteFormLaws.{absolute_with, step_gave, size_is, binary_is, rows_are}

-- ---- the step and the share

-- the multiple isn't 0
pub multiple_different : (f : LinearForm) (k : Rational) → k ≡ whole (pos (common_multiple f)) → k ≢ zero
multiple_different f k e = subst (λ (q : Rational). q ≢ zero) (sym e) (whole_different (pos (common_multiple f)) (multiple_some f))

-- the next column stands behind those of the integer form
pub next_behind : (source : RowFrom) (f : LinearForm) (s : LinearSystem) (t : Ranged) (p : ℕ) → IsValid s → AreColumns (length s.columns) f.terms → ranged_at source.place f s.columns ≡ Ok t → p ≡ next_number s → IsBehind p t.form
next_behind source f s t p is over h e =
    let ranged : IsRangedOf s.columns f t = ranged_is source.place f s.columns t is.each_column over h in
    (length s.columns, omega arith, ranged.over)

-- ---- the step in the system

pub record IsFitting (s : LinearSystem) (columns : List Column) (rows : List NewRow) : Type 0 where
  pub each_column : All IsColumn columns
  pub each_row : All (IsNewRow (length s.columns + length columns)) rows

pub step_fits : (source : RowFrom) (f : LinearForm) (s : LinearSystem) (share : Rational) (columns : List Column) (rows : List NewRow) → IsValid s → AreColumns (length s.columns) f.terms → absolute_numbers source f s ≡ Ok (share, step_of columns rows) → IsFitting s columns rows
step_fits source f s share columns rows is over h =
    let n : ℕ = length s.columns in
    let made : Rational × Step = (share, step_of columns rows) in
    let (t, t_is, a) = bind_gave (ranged_at source.place f s.columns) _ made h in
    let (q, q_is, b) = bind_gave (exact_quotient one (whole (pos (common_multiple f)))) _ made (past_gave source.place _ made a) in
    let (step, step_is, c) = bind_gave (absolute_step source t (next_number s)) _ made b in
    let same : ◌≡◌ {A = Rational × Step} (q, step) made = cc in
    let ranged : IsRangedOf s.columns f t = ranged_is source.place f s.columns t is.each_column over t_is in
    let with : step_of columns rows ≡ absolute_with source t (next_number s) = sym (ap (λ (m : Rational × Step). m.1) same) ∙ step_gave source t (next_number s) step step_is in
    let columns_are : All IsColumn (absolute_with source t (next_number s)).columns = All-cons IsColumn (size_column t) (binary ∷ []) (size_is s.columns f t ranged) (All-cons IsColumn binary [] binary_is (All-nil IsColumn)) in
    let size : length columns ≡ 2 = ap (λ (m : Step). length m.columns) with in
    let all : All (IsGivenRow (n + 2)) (map given_row rows) = subst (λ (m : Step). All (IsGivenRow (n + 2)) m.rows) (sym with) (rows_are source t n (record { ordered = ranged.ordered; columns = ranged.over })) in
    record {
      each_column = subst (λ (m : Step). All IsColumn m.columns) (sym with) columns_are;
      each_row = subst (λ (m : ℕ). All (IsNewRow (n + m)) rows) (sym size) (new_rows (n + 2) rows all);
    }

abbrev valued : Rational → ℕ → LinearSystem → Result (LinearForm × LinearSystem) Fault
valued share x after = Ok (share ⊙ the x, after)

pub value_stops : (source : RowFrom) (f : LinearForm) (s : LinearSystem) (refused : EncodeFault) → Stops (absolute_numbers source f s) (encode_cause refused) → Stops (absolute_of source f s) (encode_cause refused)
unfolding absolute_of
value_stops source f s refused h =
    Stops-bind (absolute_numbers source f s) (λ made. step_placed source.place s made.1 >>= λ after. Ok (made.0 ⊙ the (next_number s), after)) (encode_cause refused) h

pub value_placed_stops : (source : RowFrom) (f : LinearForm) (s : LinearSystem) (share : Rational) (step : Step) (refused : EncodeFault) → absolute_numbers source f s ≡ Ok (share, step) → Stops (step_placed source.place s step) (encode_cause refused) → Stops (absolute_of source f s) (encode_cause refused)
unfolding absolute_of
value_placed_stops source f s share step refused h stops =
    subst (λ (a : Result (LinearForm × LinearSystem) Fault). Stops a (encode_cause refused))
    (sym (ap (λ (a : Result (Rational × Step) Fault). a >>= λ made. step_placed source.place s made.1 >>= valued made.0 (next_number s)) h))
    (Stops-bind (step_placed source.place s step) (valued share (next_number s)) (encode_cause refused) stops)

pub value_gives : (source : RowFrom) (f : LinearForm) (s after : LinearSystem) (share : Rational) (step : Step) (p : ℕ) (form : LinearForm) → absolute_numbers source f s ≡ Ok (share, step) → step_placed source.place s step ≡ Ok after → p ≡ next_number s → form ≡ share ⊙ the p → absolute_of source f s ≡ Ok (form, after)
unfolding absolute_of
value_gives source f s after share step p form h there n made =
    ap (λ (a : Result (Rational × Step) Fault). a >>= λ made. step_placed source.place s made.1 >>= λ after. Ok (made.0 ⊙ the (next_number s), after)) h
    ∙ ap (λ (a : Result LinearSystem Fault). a >>= λ after. Ok (share ⊙ the (next_number s), after)) there
    ∙ ap (λ (g : LinearForm). Ok (g, after)) (sym (made ∙ ap (λ (m : ℕ). share ⊙ the m) n))
