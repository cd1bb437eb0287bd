-- One factor of a product, as calls make it.
use Rattle.std.proofs.Common.{◌≡◌, ◌&&◌, not, Bool, true, false, if◌then◌else◌, IsTrue, Some, None, Ok, Err, refl, ap, sym, ◌∙◌, subst}
use Rattle.zim_answer.specs.Answer.{◌>>=◌}
use Rattle.zim_answer.specs.Gives.{Stops}
use Rattle.zim_fault.specs.declared.faults.Place.{Place}
use Rattle.zim_rational.specs.Rational.{Rational, zero, one, same}
use Rattle.zim_rational.proofs.Whole.{same_Decides}
use Rattle.zim_fraction.specs.declared.fault.Past.{Past}
use Rattle.zim_linear.specs.Forms.{LinearForm}
use Rattle.zim_linear.specs.declared.faults.LinFault.{LinFault}
use Rattle.zim_linear.specs.declared.faults.LinFault.TheVariants as refusal
use Rattle.zim_forms.specs.Exact.{Exact, exact_quotient}
use Rattle.zim_forms.specs.Algebra.{form_times, form_cause}
use Rattle.zim_rows.specs.declared.faults.EncodeFault.{EncodeFault}
use Rattle.zim_rows.specs.Steps.{encode_cause}
use Rattle.zim_logic_rows.specs.LogicRows.{past_at}
use Rattle.zim_logic_rows.specs.Steps.{past_refused}
use Rattle.zim_logic_rows.proofs.RefusalLaws.{past_stops}
use Rattle.zim_vabs.specs.Turns.{term_multiplied, further_factor, is_divisor}

-- ---- the factor before a term

pub no_factor : (form : LinearForm) → term_multiplied None form ≡ Ok form
unfolding term_multiplied
no_factor form = refl

pub factor_gives : (q : Rational) (place : Place) (form made : LinearForm) → form_times form q ≡ Ok made → term_multiplied (Some (q, place)) form ≡ Ok made
unfolding term_multiplied
factor_gives q place form made h = ap (past_at place) h

pub factor_stops : (q : Rational) (place : Place) (form : LinearForm) (fault : LinFault) (refused : EncodeFault) → refused ≡ past_refused place fault → Stops (form_times form q) (form_cause fault) → Stops (term_multiplied (Some (q, place)) form) (encode_cause refused)
unfolding term_multiplied
factor_stops q place form fault refused e h = past_stops place (form_times form q) fault refused e h

-- ---- a number behind it

abbrev scaled : Place × Bool × Rational → Exact
scaled t = if t.1 then exact_quotient one t.2 else Ok t.2

pub divisor_some : (t : Place × Bool × Rational) → IsTrue (is_divisor t) → IsTrue t.1 → t.2 ≡ zero → ⊥
divisor_some t h over e = by t.1 (same t.2 zero) h over ((same_Decides t.2 zero).1 e) where
  by : (b s : Bool) → IsTrue (not (b && s)) → IsTrue b → IsTrue s → ⊥
  by true true g b s = cc
  by true false g b s = cc
  by false s g b t = cc

pub turn_gives : (form : LinearForm) (t : Place × Bool × Rational) (q : Rational) (made : LinearForm) → Ok q ≡ scaled t → form_times form q ≡ Ok made → further_factor form t ≡ Ok made
unfolding further_factor
turn_gives form t q made is h =
    ap (λ (a : Exact). past_at t.0 (a >>= λ r. form_times form r)) (sym is) ∙ ap (past_at t.0) h

pub turn_stops : (form : LinearForm) (t : Place × Bool × Rational) (q : Rational) (fault : LinFault) (refused : EncodeFault) → Ok q ≡ scaled t → refused ≡ past_refused t.0 fault → Stops (form_times form q) (form_cause fault)
    → Stops (further_factor form t) (encode_cause refused)
unfolding further_factor
turn_stops form t q fault refused is e h =
    subst (λ (a : Exact). Stops (past_at t.0 (a >>= λ r. form_times form r)) (encode_cause refused)) is (past_stops t.0 (form_times form q) fault refused e h)

pub turn_past : (form : LinearForm) (t : Place × Bool × Rational) (past : Past) (refused : EncodeFault) → Err past ≡ scaled t → refused ≡ past_refused t.0 refusal.Past → Stops (further_factor form t) (encode_cause refused)
unfolding further_factor
turn_past form t past refused is e =
    subst (λ (a : Exact). Stops (past_at t.0 (a >>= λ r. form_times form r)) (encode_cause refused)) is (past_stops t.0 (Err past) refusal.Past refused e refl)
