-- What the calls for comparisons make is what comparisons make.
use Rattle.std.proofs.Common.{ℕ, ◌≡◌, Bool, true, false, IsTrue, length, Result, Ok, ap, sym, ◌∙◌, subst}
use Rattle.zim_answer.specs.Answer.{◌>>=◌}
use Rattle.zim_answer.specs.Gives.{Gives, Stops}
use Rattle.zim_answer.proofs.GivesLemmas.{Stops-bind}
use Rattle.zim_fault.specs.declared.faults.Fault.{Fault}
use Rattle.zim_fault.specs.declared.faults.Place.{Place}
use Rattle.zim_fault.specs.declared.tokens.Relation.{Relation}
use Rattle.zim_fault.specs.declared.tokens.Relation.TheVariants.{LessThan, AtMost, EqualTo, NotEqualTo, AtLeast, GreaterThan}
use Rattle.zim_fraction.specs.declared.fault.Past.{Past}
use Rattle.zim_rational.specs.Rational.{Rational, zero, one}
use Rattle.zim_linear.specs.Forms.{LinearForm, AreColumns}
use Rattle.zim_linear.specs.Sums.{negated_form}
use Rattle.zim_linear.specs.declared.faults.LinFault.{LinFault}
use Rattle.zim_formula.specs.GroundRules.{is_term_over}
use Rattle.zim_formula.specs.declared.ground.GTerm.{GTerm}
use Rattle.zim_forms.specs.Algebra.{form_sum, form_cause}
use Rattle.zim_rows.specs.declared.rows.RowFrom.{RowFrom}
use Rattle.zim_rows.specs.declared.faults.EncodeFault.{EncodeFault}
use Rattle.zim_rows.specs.System.{LinearSystem}
use Rattle.zim_rows.specs.Steps.{Encoding, encode_cause}
use Rattle.zim_rows.specs.Extending.{IsValid}
use Rattle.zim_rows.proofs.ExtendLaws.{extends_itself}
use Rattle.zim_logic_rows.specs.declared.Literal.{Literal}
use Rattle.zim_logic_rows.specs.declared.Ranged.{Ranged}
use Rattle.zim_logic_rows.specs.LogicRows.{past_at}
use Rattle.zim_logic_rows.specs.Literals.{literal}
use Rattle.zim_logic_rows.specs.Steps.{past_refused}
use Rattle.zim_logic_rows.specs.Truth.{truth_column}
use Rattle.zim_vabs.specs.IntegerForms.{ranged_at}
use Rattle.zim_vabs.specs.Terms.{makes_term}
use Rattle.zim_vabs.proofs.OverTermLaws.{term_over_more}
use Rattle.zim_vabs.proofs.RangedLaws.{IsRangedOf, ranged_is}
use Rattle.zim_vabs.proofs.TermLaws.{columns_after, term_form}
use Rattle.zim_cond.specs.Conditions.{equal_column, signed_column, comparison_literal, difference_of, compared_form, comparison_makes}
use Rattle.zim_cond.proofs.ColumnCallLemmas.{past_stops}
use Rattle.zim_cond.proofs.CompareLeafLaws.{difference_made}

abbrev Given : {A : Type 0} → Result (A × LinearSystem) Fault → LinearSystem → Result A EncodeFault → Type 0
Given {A = A} answer after r = Gives (λ (v : A). (v, after)) encode_cause answer r

-- ---- differences

abbrev less : Place → LinearForm → LinearForm → LinearSystem → Result (LinearForm × LinearSystem) Fault
less place f g s = past_at place (form_sum f (negated_form g)) >>= λ form. Ok (form, s)

abbrev right_behind : ℕ → Place → GTerm → LinearForm × LinearSystem → Result (LinearForm × LinearSystem) Fault
right_behind statement place right f = makes_term statement right f.1 >>= λ g. less place f.0 g.0 g.1

pub right_over : (statement : ℕ) (left right : GTerm) (f : LinearForm) (s s1 : LinearSystem) → IsValid s → IsTrue (is_term_over (length s.columns) left) → IsTrue (is_term_over (length s.columns) right) → makes_term statement left s ≡ Ok (f, s1) → IsTrue (is_term_over (length s1.columns) right)
right_over statement left right f s s1 is over_left over_right h =
    term_over_more (length s.columns) (length s1.columns) right (columns_after s1 s (term_form s statement left f s1 is over_left h).widens.extends) over_right

pub left_stops : (statement : ℕ) (place : Place) (left right : GTerm) (s : LinearSystem) (refused : EncodeFault) → Stops (makes_term statement left s) (encode_cause refused) → Stops (difference_of statement place left right s) (encode_cause refused)
left_stops statement place left right s refused h = Stops-bind (makes_term statement left s) (right_behind statement place right) (encode_cause refused) h

difference_begins : (statement : ℕ) (place : Place) (left right : GTerm) (f : LinearForm) (s s1 : LinearSystem) → makes_term statement left s ≡ Ok (f, s1) → difference_of statement place left right s ≡ right_behind statement place right (f, s1)
difference_begins statement place left right f s s1 h =
    ap (λ (a : Result (LinearForm × LinearSystem) Fault). a >>= right_behind statement place right) h

pub right_stops : (statement : ℕ) (place : Place) (left right : GTerm) (f : LinearForm) (s s1 : LinearSystem) (refused : EncodeFault) → makes_term statement left s ≡ Ok (f, s1) → Stops (makes_term statement right s1) (encode_cause refused) → Stops (difference_of statement place left right s) (encode_cause refused)
right_stops statement place left right f s s1 refused first h =
    subst (λ (a : Result (LinearForm × LinearSystem) Fault). Stops a (encode_cause refused)) (sym (difference_begins statement place left right f s s1 first))
    (Stops-bind (makes_term statement right s1) (λ g. less place f g.0 g.1) (encode_cause refused) h)

difference_ends : (statement : ℕ) (place : Place) (left right : GTerm) (f g : LinearForm) (s s1 s2 : LinearSystem) → makes_term statement left s ≡ Ok (f, s1) → makes_term statement right s1 ≡ Ok (g, s2) → difference_of statement place left right s ≡ less place f g s2
difference_ends statement place left right f g s s1 s2 first second =
    difference_begins statement place left right f s s1 first ∙ ap (λ (a : Result (LinearForm × LinearSystem) Fault). a >>= λ m. less place f m.0 m.1) second

pub difference_gives : (statement : ℕ) (place : Place) (left right : GTerm) (f g form : LinearForm) (s s1 s2 : LinearSystem) → makes_term statement left s ≡ Ok (f, s1) → makes_term statement right s1 ≡ Ok (g, s2) → form_sum f (negated_form g) ≡ Ok form → difference_of statement place left right s ≡ Ok (form, s2)
difference_gives statement place left right f g form s s1 s2 first second h =
    difference_ends statement place left right f g s s1 s2 first second ∙ ap (λ (a : Result LinearForm Past). past_at place a >>= λ m. Ok (m, s2)) h

pub difference_past : (statement : ℕ) (place : Place) (left right : GTerm) (f g : LinearForm) (s s1 s2 : LinearSystem) (fault : LinFault) (refused : EncodeFault) → makes_term statement left s ≡ Ok (f, s1) → makes_term statement right s1 ≡ Ok (g, s2) → refused ≡ past_refused place fault
    → Stops (form_sum f (negated_form g)) (form_cause fault) → Stops (difference_of statement place left right s) (encode_cause refused)
difference_past statement place left right f g s s1 s2 fault refused first second e h =
    subst (λ (a : Result (LinearForm × LinearSystem) Fault). Stops a (encode_cause refused)) (sym (difference_ends statement place left right f g s s1 s2 first second))
    (subst (λ (r : EncodeFault). Stops (less place f g s2) (encode_cause r)) (sym e)
    (Stops-bind (past_at place (form_sum f (negated_form g))) (λ m. Ok (m, s2)) (encode_cause (past_refused place fault)) (past_stops place (form_sum f (negated_form g)) fault h)))

-- the difference is over the columns of the system after it
pub difference_over : (statement : ℕ) (place : Place) (left right : GTerm) (form : LinearForm) (s after : LinearSystem) → IsValid s → IsTrue (is_term_over (length s.columns) left) → IsTrue (is_term_over (length s.columns) right) → difference_of statement place left right s ≡ Ok (form, after) → AreColumns (length after.columns) form.terms
difference_over statement place left right form s after is over_left over_right h =
    (difference_made s s statement place left right form after is (extends_itself s) over_left over_right h).columns

-- ---- comparisons with 0

pub signed_stops : (encoding : Encoding ℕ) (positive : Bool) (s : LinearSystem) (refused : EncodeFault) → Stops (encoding s) (encode_cause refused) → Stops (signed_column encoding positive s) (encode_cause refused)
signed_stops encoding positive s refused h = Stops-bind (encoding s) (λ made. Ok (literal made.0 positive, made.1)) (encode_cause refused) h

pub signed_gives : (encoding : Encoding ℕ) (positive : Bool) (s after : LinearSystem) (b : ℕ) → encoding s ≡ Ok (b, after) → signed_column encoding positive s ≡ Ok (literal b positive, after)
signed_gives encoding positive s after b h = ap (λ (a : Result (ℕ × LinearSystem) Fault). a >>= λ made. Ok (literal made.0 positive, made.1)) h

pub at_least_told : (source : RowFrom) (t : Ranged) (z : Rational) (s after : LinearSystem) (r : Result Literal EncodeFault) → z ≡ zero → Given (signed_column (truth_column source z t) true s) after r → Given (comparison_literal source AtLeast t s) after r
unfolding comparison_literal
at_least_told source t z s after r e h = subst (λ (q : Rational). Given (signed_column (truth_column source q t) true s) after r) e h

pub greater_told : (source : RowFrom) (t : Ranged) (z : Rational) (s after : LinearSystem) (r : Result Literal EncodeFault) → z ≡ one → Given (signed_column (truth_column source z t) true s) after r → Given (comparison_literal source GreaterThan t s) after r
unfolding comparison_literal
greater_told source t z s after r e h = subst (λ (q : Rational). Given (signed_column (truth_column source q t) true s) after r) e h

pub less_told : (source : RowFrom) (t : Ranged) (z : Rational) (s after : LinearSystem) (r : Result Literal EncodeFault) → z ≡ zero → Given (signed_column (truth_column source z t) false s) after r → Given (comparison_literal source LessThan t s) after r
unfolding comparison_literal
less_told source t z s after r e h = subst (λ (q : Rational). Given (signed_column (truth_column source q t) false s) after r) e h

pub at_most_told : (source : RowFrom) (t : Ranged) (z : Rational) (s after : LinearSystem) (r : Result Literal EncodeFault) → z ≡ one → Given (signed_column (truth_column source z t) false s) after r → Given (comparison_literal source AtMost t s) after r
unfolding comparison_literal
at_most_told source t z s after r e h = subst (λ (q : Rational). Given (signed_column (truth_column source q t) false s) after r) e h

pub equal_literal_told : (source : RowFrom) (t : Ranged) (s after : LinearSystem) (r : Result Literal EncodeFault) → Given (signed_column (equal_column source t) true s) after r → Given (comparison_literal source EqualTo t s) after r
unfolding comparison_literal
equal_literal_told source t s after r h = h

pub unequal_told : (source : RowFrom) (t : Ranged) (s after : LinearSystem) (r : Result Literal EncodeFault) → Given (signed_column (equal_column source t) false s) after r → Given (comparison_literal source NotEqualTo t s) after r
unfolding comparison_literal
unequal_told source t s after r h = h

-- ---- comparisons of forms, and of terms

pub form_stops : (source : RowFrom) (relation : Relation) (form : LinearForm) (s : LinearSystem) (refused : EncodeFault) → Stops (ranged_at source.place form s.columns) (encode_cause refused) → Stops (compared_form source relation form s) (encode_cause refused)
form_stops source relation form s refused h =
    Stops-bind (ranged_at source.place form s.columns) (λ t. comparison_literal source relation t s) (encode_cause refused) h

pub form_told : (source : RowFrom) (relation : Relation) (form : LinearForm) (t : Ranged) (s after : LinearSystem) (r : Result Literal EncodeFault) → ranged_at source.place form s.columns ≡ Ok t → Given (comparison_literal source relation t s) after r → Given (compared_form source relation form s) after r
form_told source relation form t s after r e h =
    subst (λ (a : Result (Literal × LinearSystem) Fault). Given a after r) (sym (ap (λ (a : Result Ranged Fault). a >>= λ k. comparison_literal source relation k s) e)) h

pub ranged_over : (source : RowFrom) (form : LinearForm) (t : Ranged) (s : LinearSystem) → IsValid s → AreColumns (length s.columns) form.terms → ranged_at source.place form s.columns ≡ Ok t → AreColumns (length s.columns) t.form.terms
ranged_over source form t s is over h =
    let ranged : IsRangedOf s.columns form t = ranged_is source.place form s.columns t is.each_column over h in
    ranged.over

pub comparison_stops : (source : RowFrom) (relation : Relation) (left right : GTerm) (s : LinearSystem) (refused : EncodeFault) → Stops (difference_of source.statement source.place left right s) (encode_cause refused) → Stops (comparison_makes source relation left right s) (encode_cause refused)
comparison_stops source relation left right s refused h =
    Stops-bind (difference_of source.statement source.place left right s) (λ made. compared_form source relation made.0 made.1) (encode_cause refused) h

pub comparison_told : (source : RowFrom) (relation : Relation) (left right : GTerm) (form : LinearForm) (s s1 after : LinearSystem) (r : Result Literal EncodeFault) → difference_of source.statement source.place left right s ≡ Ok (form, s1) → Given (compared_form source relation form s1) after r → Given (comparison_makes source relation left right s) after r
comparison_told source relation left right form s s1 after r e h =
    subst (λ (a : Result (Literal × LinearSystem) Fault). Given a after r) (sym (ap (λ (a : Result (LinearForm × LinearSystem) Fault). a >>= λ made. compared_form source relation made.0 made.1) e)) h
