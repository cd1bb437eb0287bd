-- What the calls for terms make is what the terms make.
use Rattle.std.proofs.Common.{ℕ, zero as none, suc, ◌≡◌, ◌<◌, ◌≤◌, ◌+◌, Bool, if◌then◌else◌, IsTrue, List, [], ◌∷◌, length, map, drop, get_or, Option, Result, Ok, Err, IfOk, refl, ap, sym, ◌∙◌, subst, arith}
use Rattle.std.proofs.lemmas.Bool.{and_parts}
use Rattle.zim_answer.specs.Answer.{◌>>=◌, goes}
use Rattle.zim_answer.specs.Gives.{Gives, Stops}
use Rattle.zim_answer.proofs.BindLemmas.{bind_same}
use Rattle.zim_answer.proofs.GivesLemmas.{Stops-bind, Stops-goes}
use Rattle.zim_answer.proofs.GoesLemmas.{goes_next, goes_done}
use Rattle.zim_fault.specs.declared.faults.Fault.{Fault}
use Rattle.zim_fault.specs.declared.faults.Place.{Place}
use Rattle.zim_rational.specs.Rational.{Rational, zero}
use Rattle.zim_linear.specs.Forms.{LinearForm, AreColumns, form_of}
use Rattle.zim_linear.specs.Sums.{negated_form}
use Rattle.zim_rational.specs.Rounding.{absolute}
use Rattle.zim_formula.specs.Ground.{term_number}
use Rattle.zim_formula.specs.GroundRules.{divides, is_term_over}
use Rattle.zim_formula.specs.declared.ground.GTerm.{GTerm, GTerm-F, map-GTerm, roll-GTerm, fold-roll-GTerm}
use Rattle.zim_formula.specs.declared.ground.GTerm.TheVariants as term
use Rattle.zim_forms.specs.Algebra.{known, form_sum}
use Rattle.zim_rows.specs.declared.rows.RowFrom.{RowFrom}
use Rattle.zim_rows.specs.declared.faults.EncodeFault.{EncodeFault}
use Rattle.zim_rows.specs.System.{LinearSystem}
use Rattle.zim_rows.specs.Points.{assigned}
use Rattle.zim_rows.specs.Steps.{Encoding, encode_cause, Encodes}
use Rattle.zim_rows.specs.Extending.{IsValid}
use Rattle.zim_logic_rows.specs.LogicRows.{past_at}
use Rattle.zim_vabs.specs.Meaning.{FormMade}
use Rattle.zim_vabs.specs.Terms.{Made, sum_turn, member_turn, product_turn, factor_turn, term_makes, makes_term, makes_absolute}
use Rattle.zim_vabs.specs.Turns.{multiplying_turn, term_sum, further_member, members_of, term_multiplied, further_factor, term_product, sum_makes, sum_over_makes, is_divisor}
use Rattle.zim_vabs.proofs.TermLaws.{columns_after, term_form, absolute_form}

-- ---- what each form of a term makes

at_term : (statement : ℕ) (d : GTerm-F GTerm) → makes_term statement (roll-GTerm d) ≡ term_makes statement (map-GTerm GTerm (Encoding LinearForm) (makes_term statement) d)
at_term statement = fold-roll-GTerm (Encoding LinearForm) (term_makes statement)

same_operands : (statement : ℕ) (m : Made) (others : List (Place × Bool × GTerm)) → goes sum_turn m (map (λ (t : Place × Bool × GTerm). (t.0, t.1, makes_term statement t.2)) others) ≡ term_sum statement m others
unfolding goes multiplying_turn
same_operands statement m [] = refl
same_operands statement m (t ∷ ts) =
    bind_same (sum_turn m (t.0, t.1, makes_term statement t.2)) _ _ (λ next. same_operands statement next ts)

pub sum_same : (statement : ℕ) (first : GTerm) (others : List (Place × Bool × GTerm)) (s : LinearSystem) → makes_term statement (term.Sum first others) s ≡ sum_makes statement first others s
sum_same statement first others s =
    ap (λ (t : GTerm). makes_term statement t s) (sym (term.rolls-Sum first others))
    ∙ ap (λ (m : Encoding LinearForm). m s) (at_term statement (GTerm-F.Sum first others))
    ∙ bind_same (makes_term statement first s) _ _ (λ made. same_operands statement made others)

same_members : (statement : ℕ) (place : Place) (m : Made) (ts : List GTerm) → goes (member_turn place) m (map (makes_term statement) ts) ≡ members_of statement place m ts
unfolding goes further_member
same_members statement place m [] = refl
same_members statement place m (t ∷ ts) =
    bind_same (member_turn place m (makes_term statement t)) _ _ (λ next. same_members statement place next ts)

pub sum_over_same : (statement : ℕ) (place : Place) (ts : List GTerm) (s : LinearSystem) → makes_term statement (term.SumOver place ts) s ≡ sum_over_makes statement place ts s
sum_over_same statement place ts s =
    ap (λ (t : GTerm). makes_term statement t s) (sym (term.rolls-SumOver place ts))
    ∙ ap (λ (m : Encoding LinearForm). m s) (at_term statement (GTerm-F.SumOver place ts))
    ∙ same_members statement place (known zero, s) ts

-- ---- products

same_factors : (form : LinearForm) (others : List (Place × Bool × Rational)) → goes product_turn form others ≡ goes further_factor form others
unfolding goes further_factor
same_factors form [] = refl
same_factors form (t ∷ ts) = bind_same (product_turn form t) _ _ (λ next. same_factors next ts)

same_product : (factor : Option (Rational × Place)) (others : List (Place × Bool × Rational)) (form : LinearForm) → (factor_turn factor form >>= λ product. goes product_turn product others) ≡ term_product factor others form
unfolding term_multiplied
same_product factor others form = bind_same (factor_turn factor form) _ _ (λ product. same_factors product others)

abbrev product_after : Option (Rational × Place) → List (Place × Bool × Rational) → Made → Result Made Fault
product_after factor others made = term_product factor others made.0 >>= λ form. Ok (form, made.1)

product_same : (statement : ℕ) (factor : Option (Rational × Place)) (t : GTerm) (others : List (Place × Bool × Rational)) (s : LinearSystem) → makes_term statement (term.Product factor t others) s ≡ (makes_term statement t s >>= product_after factor others)
product_same statement factor t others s =
    ap (λ (u : GTerm). makes_term statement u s) (sym (term.rolls-Product factor t others))
    ∙ ap (λ (m : Encoding LinearForm). m s) (at_term statement (GTerm-F.Product factor t others))
    ∙ bind_same (makes_term statement t s) _ _ (λ made. ap (λ (a : Result LinearForm Fault). a >>= λ form. Ok (form, made.1)) (same_product factor others made.0))

pub product_gives : (statement : ℕ) (factor : Option (Rational × Place)) (t : GTerm) (others : List (Place × Bool × Rational)) (s after : LinearSystem) (form : LinearForm) (r : Result LinearForm EncodeFault) → makes_term statement t s ≡ Ok (form, after) → Gives (λ f. f) encode_cause (term_product factor others form) r
    → Gives (λ f. (f, after)) encode_cause (makes_term statement (term.Product factor t others) s) r
product_gives statement factor t others s after form (Ok product) h given =
    product_same statement factor t others s
    ∙ ap (λ (a : Result Made Fault). a >>= product_after factor others) h
    ∙ ap (λ (a : Result LinearForm Fault). a >>= λ f. Ok (f, after)) given
product_gives statement factor t others s after form (Err refused) h given =
    subst (λ (a : Result Made Fault). Stops a (encode_cause refused))
    (sym (product_same statement factor t others s ∙ ap (λ (a : Result Made Fault). a >>= product_after factor others) h))
    (Stops-bind (term_product factor others form) (λ f. Ok (f, after)) (encode_cause refused) given)

pub factors_begin : (factor : Option (Rational × Place)) (others : List (Place × Bool × Rational)) (form product : LinearForm) → term_multiplied factor form ≡ Ok product → goes further_factor product others ≡ term_product factor others form
factors_begin factor others form product h = sym (ap (λ (a : Result LinearForm Fault). a >>= λ product. goes further_factor product others) h)

number_at_index : (os : List (Place × Bool × Rational)) (i : ℕ) (d : Place × Bool × Rational) → i < length os → IsTrue (divides os) → IsTrue (is_divisor (get_or os i d))
unfolding divides
number_at_index [] i d lt h = absurd (omega arith)
number_at_index (o ∷ os) none d lt h = (and_parts (is_divisor o) (divides os) h).0
number_at_index (o ∷ os) (suc i) d lt h =
    number_at_index os i d (omega arith) (and_parts (is_divisor o) (divides os) h).1

pub factor_here : (others : List (Place × Bool × Rational)) (i : ℕ) (t : Place × Bool × Rational) → i < length others → t ≡ get_or others i t → IsTrue (divides others) → IsTrue (is_divisor t)
factor_here others i t lt is h = subst (λ (u : Place × Bool × Rational). IsTrue (is_divisor u)) (sym is) (number_at_index others i t lt h)

-- ---- turns of sums

abbrev signed : Bool → LinearForm → LinearForm
signed minus form = if minus then negated_form form else form

abbrev beside : LinearSystem → LinearForm → Result Made Fault
beside s form = Ok (form, s)

pub turn_stops : (statement : ℕ) (f : LinearForm) (s : LinearSystem) (o : Place × Bool × GTerm) (refused : EncodeFault) → Stops (makes_term statement o.2 s) (encode_cause refused) → Stops (multiplying_turn statement (f, s) o) (encode_cause refused)
unfolding multiplying_turn
turn_stops statement f s o refused h =
    Stops-bind (makes_term statement o.2 s) (λ made. past_at o.0 (form_sum f (signed o.1 made.0)) >>= λ sum. Ok (sum, made.1)) (encode_cause refused) h

pub turn_gives : (statement : ℕ) (f : LinearForm) (s after : LinearSystem) (o : Place × Bool × GTerm) (form new : LinearForm) → makes_term statement o.2 s ≡ Ok (form, after) → past_at o.0 (form_sum f (signed o.1 form)) ≡ Ok new → multiplying_turn statement (f, s) o ≡ Ok (new, after)
unfolding multiplying_turn
turn_gives statement f s after o form new h sum =
    ap (λ (a : Result Made Fault). a >>= λ made. past_at o.0 (form_sum f (signed o.1 made.0)) >>= beside made.1) h
    ∙ ap (λ (a : Result LinearForm Fault). a >>= beside after) sum

pub turn_past : (statement : ℕ) (f : LinearForm) (s after : LinearSystem) (o : Place × Bool × GTerm) (form : LinearForm) (refused : EncodeFault) → makes_term statement o.2 s ≡ Ok (form, after) → Stops (past_at o.0 (form_sum f (signed o.1 form))) (encode_cause refused) → Stops (multiplying_turn statement (f, s) o) (encode_cause refused)
unfolding multiplying_turn
turn_past statement f s after o form refused h stops =
    subst (λ (a : Result Made Fault). Stops a (encode_cause refused))
    (sym (ap (λ (a : Result Made Fault). a >>= λ made. past_at o.0 (form_sum f (signed o.1 made.0)) >>= beside made.1) h))
    (Stops-bind (past_at o.0 (form_sum f (signed o.1 form))) (beside after) (encode_cause refused) stops)

pub member_stops : (statement : ℕ) (place : Place) (f : LinearForm) (s : LinearSystem) (t : GTerm) (refused : EncodeFault) → Stops (makes_term statement t s) (encode_cause refused) → Stops (further_member statement place (f, s) t) (encode_cause refused)
unfolding further_member
member_stops statement place f s t refused h =
    Stops-bind (makes_term statement t s) (λ made. past_at place (form_sum f made.0) >>= λ sum. Ok (sum, made.1)) (encode_cause refused) h

pub member_gives : (statement : ℕ) (place : Place) (f : LinearForm) (s after : LinearSystem) (t : GTerm) (form new : LinearForm) → makes_term statement t s ≡ Ok (form, after) → past_at place (form_sum f form) ≡ Ok new → further_member statement place (f, s) t ≡ Ok (new, after)
unfolding further_member
member_gives statement place f s after t form new h sum =
    ap (λ (a : Result Made Fault). a >>= λ made. past_at place (form_sum f made.0) >>= beside made.1) h
    ∙ ap (λ (a : Result LinearForm Fault). a >>= beside after) sum

pub member_past : (statement : ℕ) (place : Place) (f : LinearForm) (s after : LinearSystem) (t : GTerm) (form : LinearForm) (refused : EncodeFault) → makes_term statement t s ≡ Ok (form, after) → Stops (past_at place (form_sum f form)) (encode_cause refused) → Stops (further_member statement place (f, s) t) (encode_cause refused)
unfolding further_member
member_past statement place f s after t form refused h stops =
    subst (λ (a : Result Made Fault). Stops a (encode_cause refused))
    (sym (ap (λ (a : Result Made Fault). a >>= λ made. past_at place (form_sum f made.0) >>= beside made.1) h))
    (Stops-bind (past_at place (form_sum f form)) (beside after) (encode_cause refused) stops)

-- ---- what a made term says of the system

pub grown : (statement : ℕ) (t : GTerm) (s after : LinearSystem) (form : LinearForm) → IsValid s → IsTrue (is_term_over (length s.columns) t) → makes_term statement t s ≡ Ok (form, after) → length s.columns ≤ length after.columns
grown statement t s after form is over h = columns_after after s (term_form s statement t form after is over h).widens.extends

pub made_over : (statement : ℕ) (t : GTerm) (s after : LinearSystem) (form : LinearForm) → IsValid s → IsTrue (is_term_over (length s.columns) t) → makes_term statement t s ≡ Ok (form, after) → AreColumns (length after.columns) form.terms
made_over statement t s after form is over h = (term_form s statement t form after is over h).columns

-- ---- the absolute value of a term

-- ---- what the calls say

pub form_made : (source : RowFrom) (t : GTerm) (s after : LinearSystem) (r : Result LinearForm EncodeFault) → IsValid s → IsTrue (is_term_over (length s.columns) t) → Encodes (λ form. form) (makes_term source.statement t) s after r → IfOk r (λ form. FormMade s s (λ p. term_number (assigned p) t) form after)
form_made source t s after (Ok form) is over h = term_form s source.statement t form after is over h
form_made source t s after (Err refused) is over h = tt

pub absolute_made : (source : RowFrom) (t : GTerm) (s after : LinearSystem) (r : Result LinearForm EncodeFault) → IsValid s → IsTrue (is_term_over (length s.columns) t) → Encodes (λ form. form) (makes_absolute source t) s after r
    → IfOk r (λ form. FormMade s s (λ p. absolute (term_number (assigned p) t)) form after)
absolute_made source t s after (Ok form) is over h = absolute_form s source t form after is over h
absolute_made source t s after (Err refused) is over h = tt

abbrev Tells : Result Made Fault → LinearSystem → Result LinearForm EncodeFault → Type 0
Tells answer after r = Gives (λ (form : LinearForm). (form, after)) encode_cause answer r

pub sum_told : (statement : ℕ) (first : GTerm) (others : List (Place × Bool × GTerm)) (s middle after : LinearSystem) (form : LinearForm) (r : Result LinearForm EncodeFault) → makes_term statement first s ≡ Ok (form, middle) → Tells (term_sum statement (form, middle) others) after r → Tells (makes_term statement (term.Sum first others) s) after r
sum_told statement first others s middle after form r h told =
    subst (λ (a : Result Made Fault). Tells a after r) (sym (sum_same statement first others s ∙ ap (λ (a : Result Made Fault). a >>= λ made. term_sum statement made others) h)) told

pub sum_over_told : (statement : ℕ) (place : Place) (ts : List GTerm) (s after : LinearSystem) (r : Result LinearForm EncodeFault) → Tells (sum_over_makes statement place ts s) after r → Tells (makes_term statement (term.SumOver place ts) s) after r
sum_over_told statement place ts s after r h =
    subst (λ (a : Result Made Fault). Tells a after r) (sym (sum_over_same statement place ts s)) h

-- ---- loops

-- the operands of a sum from i on lead from the form and the system so far to what all of them make, and the system has grown
pub record IsSumming (statement n : ℕ) (start : Made) (others : List (Place × Bool × GTerm)) (i : ℕ) (so_far : Made) : Type 0 where
  pub leads : term_sum statement so_far (drop i others) ≡ term_sum statement start others
  pub grown : n ≤ length so_far.1.columns

-- the same of members
pub record IsAddingMembers (statement n : ℕ) (place : Place) (start : Made) (members : List GTerm) (i : ℕ) (so_far : Made) : Type 0 where
  pub leads : members_of statement place so_far (drop i members) ≡ members_of statement place start members
  pub grown : n ≤ length so_far.1.columns

pub sum_stops : (statement n : ℕ) (others : List (Place × Bool × GTerm)) (start : Made) (now : LinearSystem) (sum : LinearForm) (i : ℕ) (o : Place × Bool × GTerm) (refused : EncodeFault) (begun : Made) → i < length others → o ≡ get_or others i o → IsSumming statement n start others i (sum, now)
    → start ≡ begun → Stops (multiplying_turn statement (sum, now) o) (encode_cause refused) → Stops (term_sum statement begun others) (encode_cause refused)
sum_stops statement n others start now sum i o refused begun lt is summing e stops =
    Stops-goes (multiplying_turn statement) (sum, now) others i o (encode_cause refused) (term_sum statement begun others) lt (sym is) stops (summing.leads ∙ ap (λ (m : Made). term_sum statement m others) e)

pub sum_goes_on : (statement n : ℕ) (others : List (Place × Bool × GTerm)) (start : Made) (now new : LinearSystem) (sum more : LinearForm) (i : ℕ) (o : Place × Bool × GTerm) → i < length others → o ≡ get_or others i o → IsSumming statement n start others i (sum, now)
    → multiplying_turn statement (sum, now) o ≡ Ok (more, new) → length now.columns ≤ length new.columns → IsSumming statement n start others (i + 1) (more, new)
sum_goes_on statement n others start now new sum more i o lt is summing turn le =
    let few : n ≤ length now.columns = summing.grown in
    record {
      leads = goes_next (multiplying_turn statement) (sum, now) (more, new) others i o (term_sum statement start others) lt (sym is) turn summing.leads;
      grown = omega arith;
    }

pub sum_ends : (statement n : ℕ) (others : List (Place × Bool × GTerm)) (start : Made) (now : LinearSystem) (sum : LinearForm) (i : ℕ) (begun : Made) → length others ≤ i → IsSumming statement n start others i (sum, now) → start ≡ begun → term_sum statement begun others ≡ Ok (sum, now)
sum_ends statement n others start now sum i begun le summing e = goes_done (multiplying_turn statement) (sum, now) others i (term_sum statement begun others) le (summing.leads ∙ ap (λ (m : Made). term_sum statement m others) e)

pub members_stop : (statement n : ℕ) (place : Place) (start : Made) (ts : List GTerm) (now : LinearSystem) (sum : LinearForm) (i : ℕ) (t : GTerm) (refused : EncodeFault) (begun : Made) → i < length ts → t ≡ get_or ts i t → IsAddingMembers statement n place start ts i (sum, now)
    → start ≡ begun → Stops (further_member statement place (sum, now) t) (encode_cause refused) → Stops (members_of statement place begun ts) (encode_cause refused)
members_stop statement n place start ts now sum i t refused begun lt is adding e stops =
    Stops-goes (further_member statement place) (sum, now) ts i t (encode_cause refused) (members_of statement place begun ts) lt (sym is) stops (adding.leads ∙ ap (λ (m : Made). members_of statement place m ts) e)

pub members_go_on : (statement n : ℕ) (place : Place) (start : Made) (ts : List GTerm) (now new : LinearSystem) (sum more : LinearForm) (i : ℕ) (t : GTerm) → i < length ts → t ≡ get_or ts i t → IsAddingMembers statement n place start ts i (sum, now)
    → further_member statement place (sum, now) t ≡ Ok (more, new) → length now.columns ≤ length new.columns → IsAddingMembers statement n place start ts (i + 1) (more, new)
members_go_on statement n place start ts now new sum more i t lt is adding turn le =
    let few : n ≤ length now.columns = adding.grown in
    record {
      leads = goes_next (further_member statement place) (sum, now) (more, new) ts i t (members_of statement place start ts) lt (sym is) turn adding.leads;
      grown = omega arith;
    }

pub members_end : (statement n : ℕ) (place : Place) (start : Made) (ts : List GTerm) (now : LinearSystem) (sum : LinearForm) (i : ℕ) (begun : Made) → length ts ≤ i → IsAddingMembers statement n place start ts i (sum, now) → start ≡ begun → members_of statement place begun ts ≡ Ok (sum, now)
members_end statement n place start ts now sum i begun le adding e = goes_done (further_member statement place) (sum, now) ts i (members_of statement place begun ts) le (adding.leads ∙ ap (λ (m : Made). members_of statement place m ts) e)

-- the form that is given at the begin
pub given_is : (gathered form : LinearForm) (s : LinearSystem) → gathered ≡ form → ◌≡◌ {A = Made} (gathered, s) (form, s)
given_is gathered form s e = ap (λ (f : LinearForm). (f, s)) e

-- the form 0 at the begin
pub nought_is : (gathered form : LinearForm) (z : Rational) (s : LinearSystem) → z ≡ zero → form ≡ form_of [] z → gathered ≡ form → ◌≡◌ {A = Made} (gathered, s) (known zero, s)
nought_is gathered form z s e is same = ap (λ (f : LinearForm). (f, s)) (same ∙ is ∙ ap (form_of []) e)
