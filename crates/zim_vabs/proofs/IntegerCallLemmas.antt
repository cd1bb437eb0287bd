-- What the calls for integer forms answer is the least multiple with its ends, or the first fault.
use Rattle.std.proofs.Common.{ℕ, pos, ◌≡◌, Bool, true, false, cond, nat_le, List, [], ◌∷◌, length, map, Option, Some, None, Result, Ok, Err, refl, ap, sym, ◌∙◌, subst}
use Rattle.std.specs.Option.{is_some}
use Rattle.std.proofs.lemmas.Bool.{leb-true, le-leb, cond-true}
use Rattle.std.proofs.lemmas.List.{length-map}
use Rattle.zim_answer.specs.Answer.{◌>>=◌}
use Rattle.zim_answer.specs.Gives.{Stops}
use Rattle.zim_fault.specs.declared.faults.Place.{Place}
use Rattle.zim_fault.specs.declared.kinds.Kind.{Kind}
use Rattle.zim_rational.specs.Rational.{Rational, whole}
use Rattle.zim_fraction.specs.Limit.{limit}
use Rattle.zim_fraction.specs.declared.fault.Past.{Past}
use Rattle.zim_linear.specs.Forms.{Term, LinearForm, AreColumns}
use Rattle.zim_linear.specs.Ends.{HaveSides}
use Rattle.zim_linear.specs.Integers.{common_multiple, IsIntegerWithin, IntegerAnswer}
use Rattle.zim_linear.specs.Multiples.{IsMultipleOf}
use Rattle.zim_linear.specs.declared.faults.LinFault.{LinFault}
use Rattle.zim_linear.specs.declared.faults.LinFault.TheVariants as refusal
use Rattle.zim_linear.specs.declared.integers.IntegerForm.{IntegerForm}
use Rattle.zim_linear.specs.declared.sides.Sides.{Sides}
use Rattle.zim_forms.specs.Algebra.{form_times, form_cause}
use Rattle.zim_forms.specs.FormEnds.{both_ends}
use Rattle.zim_forms.proofs.MultipleLaws.{times_gave, times_past}
use Rattle.zim_rows.specs.declared.rows.Column.{Column}
use Rattle.zim_rows.specs.declared.faults.EncodeFault.{EncodeFault}
use Rattle.zim_rows.specs.System.{column_at}
use Rattle.zim_rows.specs.Steps.{encode_cause, fault_here}
use Rattle.zim_logic_rows.specs.declared.Ranged.{Ranged}
use Rattle.zim_logic_rows.specs.LogicRows.{past_at}
use Rattle.zim_logic_rows.specs.Steps.{past_refused}
use Rattle.zim_logic_rows.proofs.RefusalLaws.{past_stops}
use Rattle.zim_vabs.specs.IntegerForms.{column_offence, first_kind, offence, whole_multiple, with_ends, ranged, unless_offends, ranged_at}

-- ---- the first column that doesn't serve

pub record IsScanning (columns : List Column) (terms rest : List Term) : Type 0 where
  pub over : AreColumns (length columns) rest
  pub same : offence columns rest ≡ offence columns terms

first_some : (o next : Option Kind) → is_some o ≡ true → o ≡ first_kind o next
first_some (Some kind) next h = refl
first_some None next h = cc

first_none : (o next : Option Kind) → is_some o ≡ false → next ≡ first_kind o next
first_none (Some kind) next h = cc
first_none None next h = refl

pub scan_found : (columns : List Column) (terms r rest : List Term) (t : Term) (o : Option Kind) → IsScanning columns terms r → r ≡ t ∷ rest → o ≡ column_offence (column_at columns t.0) → is_some o ≡ true → o ≡ offence columns terms
unfolding offence
scan_found columns terms r rest t o m e is some =
    first_some o (offence columns rest) some ∙ ap (λ (k : Option Kind). first_kind k (offence columns rest)) is ∙ sym (ap (offence columns) e) ∙ m.same

pub scan_next : (columns : List Column) (terms r rest : List Term) (t : Term) (o : Option Kind) → IsScanning columns terms r → r ≡ t ∷ rest → o ≡ column_offence (column_at columns t.0) → is_some o ≡ false → IsScanning columns terms rest
unfolding offence
scan_next columns terms r rest t o m e is none =
    record {
      over = (subst (AreColumns (length columns)) e m.over).2;
      same =
          first_none o (offence columns rest) none ∙ ap (λ (k : Option Kind). first_kind k (offence columns rest)) is ∙ sym (ap (offence columns) e) ∙ m.same;
    }

pub scan_end : (columns : List Column) (terms r : List Term) → IsScanning columns terms r → r ≡ [] → None ≡ offence columns terms
unfolding offence
scan_end columns terms r m e = sym (ap (offence columns) e) ∙ m.same

-- ---- the multiple and its ends

whole_past_by : (b : Bool) (a : Result LinearForm Past) → (b ≡ true → a ≡ Err (record {})) → cond b a (Err (record {})) ≡ Err (record {})
whole_past_by true a h = h refl
whole_past_by false a h = refl

whole_past : (f : LinearForm) → ¬ IsIntegerWithin f → whole_multiple f ≡ Err (record {})
unfolding whole_multiple
whole_past f past =
    whole_past_by (nat_le (common_multiple f) limit) (form_times f (whole (pos (common_multiple f)))) (λ t. times_past f (whole (pos (common_multiple f))) (λ within. past (leb-true (common_multiple f) limit t, within)))

whole_gives : (f : LinearForm) (made : IntegerForm) → IntegerAnswer f (Ok made) → whole_multiple f ≡ Ok made.form
unfolding whole_multiple
whole_gives f made h =
    let k : Rational = whole (pos (common_multiple f)) in
    cond-true (nat_le (common_multiple f) limit) (form_times f k) (Err (record {})) (le-leb (common_multiple f) limit h.0.0)
    ∙ times_gave f k made.form h.0.1 (subst (λ (q : Rational). IsMultipleOf f q made.form) (ap whole h.1) h.2)

abbrev sides_of : List Column → List Sides
sides_of columns = map (λ (c : Column). c.sides) columns

abbrev after_multiple : List Column → LinearForm → Result Ranged Past
after_multiple columns m = both_ends (sides_of columns) m.terms >>= λ ends. with_ends m ends

ranged_from : (columns : List Column) (f : LinearForm) (made : IntegerForm) → IntegerAnswer f (Ok made) → ranged columns f ≡ after_multiple columns made.form
unfolding ranged
ranged_from columns f made h = ap (λ (a : Result LinearForm Past). a >>= after_multiple columns) (whole_gives f made h)

pub ranged_stops : (columns : List Column) (f : LinearForm) (fault : LinFault) → IntegerAnswer f (Err fault) → Stops (ranged columns f) (form_cause fault)
unfolding ranged
ranged_stops columns f refusal.Past h = ap (λ (a : Result LinearForm Past). a >>= after_multiple columns) (whole_past f h)
ranged_stops columns f refusal.Memory h = tt

pub multiple_over : (columns : List Column) (f : LinearForm) (made : IntegerForm) (sides : List Sides) → IntegerAnswer f (Ok made) → AreColumns (length columns) f.terms → sides ≡ sides_of columns → HaveSides sides made.form.terms
multiple_over columns f made sides h over e =
    let size : length sides ≡ length columns = ap length e ∙ length-map columns (λ (c : Column). c.sides) in
    subst (λ (n : ℕ). AreColumns n made.form.terms) (sym size) (h.2.columns (length columns) over)

pub ranged_ends_past : (columns : List Column) (f : LinearForm) (made : IntegerForm) (sides : List Sides) (past : Past) → IntegerAnswer f (Ok made) → sides ≡ sides_of columns → Err past ≡ both_ends sides made.form.terms → ranged columns f ≡ Err past
ranged_ends_past columns f made sides past h e failed =
    ranged_from columns f made h
    ∙ ap (λ (a : Result Sides Past). a >>= λ ends. with_ends made.form ends) (ap (λ (s : List Sides). both_ends s made.form.terms) (sym e) ∙ sym failed)

pub ranged_gives : (columns : List Column) (f : LinearForm) (made : IntegerForm) (sides : List Sides) (ends : Sides) (answer : Result Ranged Past) → IntegerAnswer f (Ok made) → sides ≡ sides_of columns → Ok ends ≡ both_ends sides made.form.terms → answer ≡ with_ends made.form ends → ranged columns f ≡ answer
ranged_gives columns f made sides ends answer h e found last =
    ranged_from columns f made h
    ∙ ap (λ (a : Result Sides Past). a >>= λ ends. with_ends made.form ends) (ap (λ (s : List Sides). both_ends s made.form.terms) (sym e) ∙ sym found)
    ∙ sym last

-- ---- at a place

pub at_offends : (place : Place) (f : LinearForm) (columns : List Column) (o : Option Kind) (kind : Kind) → o ≡ offence columns f.terms → o ≡ Some kind → ranged_at place f columns ≡ Err (fault_here kind place)
unfolding ranged_at
at_offends place f columns o kind is some =
    ap (λ (k : Option Kind). unless_offends place k (past_at place (ranged columns f))) (sym is ∙ some)

pub at_gives : (place : Place) (f : LinearForm) (columns : List Column) (o : Option Kind) (t : Ranged) → o ≡ offence columns f.terms → o ≡ None → ranged columns f ≡ Ok t → ranged_at place f columns ≡ Ok t
unfolding ranged_at
at_gives place f columns o t is none h =
    ap (λ (k : Option Kind). unless_offends place k (past_at place (ranged columns f))) (sym is ∙ none) ∙ ap (past_at place) h

pub at_stops : (place : Place) (f : LinearForm) (columns : List Column) (o : Option Kind) (fault : LinFault) (refused : EncodeFault) → o ≡ offence columns f.terms → o ≡ None → refused ≡ past_refused place fault → Stops (ranged columns f) (form_cause fault)
    → Stops (ranged_at place f columns) (encode_cause refused)
unfolding ranged_at
at_stops place f columns o fault refused is none e h =
    subst (λ (k : Option Kind). Stops (unless_offends place k (past_at place (ranged columns f))) (encode_cause refused)) (sym (sym is ∙ none)) (past_stops place (ranged columns f) fault refused e h)
