-- The form of a part, and a form to which parts are added one after another.
use Rattle.std.proofs.Common.{ℕ, zero, suc, ◌≡◌, ◌<◌, ◌≤◌, Bool, true, false, nat_eq, List, [], ◌∷◌, ◌++◌, map, length, IsTrue, Option, Some, None, arith, refl, sym, ap, subst, ◌∙◌, inl, inr, append_assoc, append-nil}
use Rattle.std.specs.Prelude.{if◌then◌else◌, unwrap_or, IfSome, Result, Ok, Err}
use Rattle.std.specs.List.{AllByRecursion}
use Rattle.std.proofs.lemmas.List.{map-append}
use Rattle.std.proofs.lemmas.Bool.{eq-eqb, ne_eqb, cases_eq}
use Rattle.zim_fault.specs.declared.faults.Fault.{Fault}
use Rattle.zim_fault.specs.declared.kinds.Kind.TheVariants as kind
use Rattle.zim_rational.specs.Rational as rational
use Rattle.zim_rational.specs.Rational.{Rational, one, plus, times}
use Rattle.zim_rational.proofs.Ring.{plus_zero, zero_plus, times_one, one_times, zero_times, times_comm}
use Rattle.zim_fraction.specs.Limit.{is_number, is_sum_within}
use Rattle.zim_linear.specs.Forms.{Term, LinearForm, ColumnNumbers, AreTermsFrom, AreTerms, AreColumns, form_of, number_at, sum_at}
use Rattle.zim_linear.specs.Answers.{FormAnswer}
use Rattle.zim_linear.specs.Sums.{IsSumWithin, AddedAnswer}
use Rattle.zim_linear.specs.Multiples.{IsMultipleWithin, IsMultipleOf}
use Rattle.zim_linear.specs.declared.faults.LinFault.{LinFault}
use Rattle.zim_linear.specs.declared.faults.LinFault.TheVariants.{Past, Memory}
use Rattle.zim_linear.proofs.FormLaws.{sum_at_none, sum_at_more, sum_at_append}
use Rattle.zim_plain.specs.declared.parts.Part.{Part}
use Rattle.std.specs.Global.{Vec}
use Rattle.zim_plain.specs.declared.parts.Side.{Side}
use Rattle.zim_plain.specs.declared.parts.Side.TheVariants.{Known, Parts}
use Rattle.zim_plain.specs.declared.stop.PlainStop.{PlainStop}
use Rattle.zim_plain.specs.Sides.{MadeAnswer, IsSide, side_fault, IsSideForm}
use Rattle.zim_plain.specs.Faults.{fault_at}
use Rattle.zim_plain.specs.Parts.{part_term, with_one, sum_of_column, parts_fault, parts_number, coefficient_in, coefficient_at, AreNumbers, IsPart, IsPartUpTo, IsFormOf, PartFormAnswer, IsAdded, AddPartAnswer}
use Rattle.zim_plain.proofs.Limits.{zero_is_number, sum_with_zero}
use Rattle.zim_plain.proofs.Faulting.{none_past, past_some, first_of_second, first_of_first}
use Rattle.zim_plain.proofs.Coefficients.{coefficient_is, from_one, sum_within, within_sum, sum_are_numbers}

-- ---- the number of a part

part_at-number : (part : Part) (x : ColumnNumbers) → parts_number (part ∷ []) x ≡ times part.amount (with_one x (unwrap_or part.column 0))
unfolding parts_number
part_at-number part x =
    sum_at_more (with_one x) (part_term part) [] ∙ ap (plus (times part.amount (with_one x (unwrap_or part.column 0)))) (sum_at_none (with_one x))
    ∙ plus_zero (times part.amount (with_one x (unwrap_or part.column 0)))

constant_number : (q : Rational) (x : ColumnNumbers) → number_at x (form_of [] q) ≡ q
unfolding number_at
constant_number q x = ap (λ (n : Rational). plus n q) (sum_at_none x) ∙ zero_plus q

column_number : (j : ℕ) (x : ColumnNumbers) → number_at x (form_of ((j, one) ∷ []) rational.zero) ≡ x j
unfolding number_at
column_number j x =
    plus_zero (sum_at x ((j, one) ∷ [])) ∙ sum_at_more x (j, one) [] ∙ ap (plus (times one (x j))) (sum_at_none x) ∙ plus_zero (times one (x j)) ∙ one_times (x j)

constant_numbers : (q : Rational) → IsTrue (is_number q) → AreNumbers (form_of [] q)
unfolding coefficient_in
constant_numbers q h zero = h
constant_numbers q h (suc j) = zero_is_number

pub constant_form : (q : Rational) → IsTrue (is_number q) → IsFormOf [] (λ x. q) (form_of [] q)
constant_form q h = record {
  is = constant_number q;
  terms = tt;
  columns = λ n c. tt;
  within = constant_numbers q h;
}

-- ---- the form of a part

-- its coefficients add up what there is
part_numbers : (part : Part) (form : LinearForm) → IsPart part → AreTerms form.terms → ((x : ColumnNumbers) → number_at x form ≡ parts_number (part ∷ []) x) → (j : ℕ) → coefficient_at form j ≡ (if nat_eq (unwrap_or part.column 0) j then part.amount else rational.zero)
unfolding parts_number sum_of_column
part_numbers part form is terms same j =
    coefficient_is form (part_term part ∷ []) terms same j ∙ by (nat_eq (unwrap_or part.column 0) j)
  where
    by : (b : Bool) → (if b then plus rational.zero part.amount else rational.zero) ≡ (if b then part.amount else rational.zero)
    by true = zero_plus part.amount
    by false = refl

part_within : (part : Part) (form : LinearForm) → IsPart part → AreTerms form.terms → ((x : ColumnNumbers) → number_at x form ≡ parts_number (part ∷ []) x) → AreNumbers form
part_within part form is terms same j =
    subst (λ (c : Rational). IsTrue (is_number c)) (sym (part_numbers part form is terms same j)) (by (nat_eq (unwrap_or part.column 0) j))
  where
    by : (b : Bool) → IsTrue (is_number (if b then part.amount else rational.zero))
    by true = is.within
    by false = zero_is_number

pub form_of_number : (part : Part) (form : LinearForm) → IsPart part → part.column ≡ None → form ≡ form_of [] part.amount → IsFormOf (part ∷ []) (parts_number (part ∷ [])) form
form_of_number part form is none e =
    let terms : AreTerms form.terms = subst (λ (f : LinearForm). AreTerms f.terms) (sym e) tt in
    let same : (x : ColumnNumbers) → number_at x form ≡ parts_number (part ∷ []) x =
    λ x. ap (number_at x) e ∙ constant_number part.amount x ∙ sym (times_one part.amount)
    ∙ ap (λ (o : Option ℕ). times part.amount (with_one x (unwrap_or o 0))) (sym none) ∙ sym (part_at-number part x) in
    record {
      is = same;
      terms = terms;
      columns = λ n c. subst (λ (f : LinearForm). AreColumns n f.terms) (sym e) tt;
      within = part_within part form is terms same;
    }

pub form_of_multiple : (part : Part) (column form : LinearForm) (j : ℕ) → IsPart part → part.column ≡ Some j → column ≡ form_of ((j, one) ∷ []) rational.zero → IsMultipleOf column part.amount form → IsFormOf (part ∷ []) (parts_number (part ∷ [])) form
form_of_multiple part column form j is some e made =
    let first : 0 < j = subst (λ (o : Option ℕ). IfSome o (λ (k : ℕ). 0 < k)) some is.column in
    let same : (x : ColumnNumbers) → number_at x form ≡ parts_number (part ∷ []) x =
    λ x. made.number x ∙ ap (λ (f : LinearForm). times (number_at x f) part.amount) e ∙ ap (λ (v : Rational). times v part.amount) (column_number j x)
    ∙ times_comm (x j) part.amount ∙ ap (times part.amount) (sym (one_from j x first))
    ∙ ap (λ (o : Option ℕ). times part.amount (with_one x (unwrap_or o 0))) (sym some) ∙ sym (part_at-number part x) in
    record {
      is = same;
      terms = made.terms;
      columns = λ n c.
          let upper : j ≤ n = subst (λ (o : Option ℕ). IfSome o (λ (k : ℕ). k ≤ n)) some c.0 in
          made.columns n (subst (λ (f : LinearForm). AreColumns n f.terms) (sym e) (first, upper, tt));
      within = part_within part form is made.terms same;
    }
  where
    one_from : (j : ℕ) (x : ColumnNumbers) → 0 < j → with_one x j ≡ x j
    one_from zero x l = absurd (omega arith)
    one_from (suc j) x l = refl

-- a multiple of a column by a number is within the limit
pub multiple_within : (q : Rational) (column : LinearForm) (j : ℕ) → IsTrue (is_number q) → column ≡ form_of ((j, one) ∷ []) rational.zero → IsMultipleWithin column q
multiple_within q column j h e =
    subst (λ (f : LinearForm). IsMultipleWithin f q) (sym e)
    ((subst (λ (c : Rational). IsTrue (is_number c)) (sym (one_times q)) h, tt), subst (λ (c : Rational). IsTrue (is_number c)) (sym (zero_times q)) zero_is_number)

pub part_answer : (part : Part) (column : LinearForm) (j : ℕ) (r : Result LinearForm LinFault) → IsPart part → part.column ≡ Some j → column ≡ form_of ((j, one) ∷ []) rational.zero → FormAnswer (IsMultipleWithin column part.amount) (IsMultipleOf column part.amount) r → PartFormAnswer part r
part_answer part column j (Ok form) is some e answer = form_of_multiple part column form j is some e answer.1
part_answer part column j (Err Past) is some e answer = answer (multiple_within part.amount column j is.within e)
part_answer part column j (Err Memory) is some e answer = tt

-- ---- a part that is added

part_sum : (old more : LinearForm) (part : Part) → AreTerms old.terms → AreNumbers old → IsPart part → IsFormOf (part ∷ []) (parts_number (part ∷ [])) more → IsTrue (is_sum_within (coefficient_at old (unwrap_or part.column 0)) part.amount) → IsSumWithin old more
part_sum old more part terms numbers is form within =
    let k : ℕ = unwrap_or part.column 0 in
    sum_within old more terms (terms_from_one more (part ∷ []) (unwrap_or part.column 0) form (up_to part.column is.column, tt))
    (λ j.
    subst (λ (c : Rational). IsTrue (is_sum_within (coefficient_at old j) c)) (sym (part_numbers part more is form.terms form.is j))
    (elim (cases_eq k j) [
      | inl e ↦
          subst (λ (b : Bool). IsTrue (is_sum_within (coefficient_at old j) (if b then part.amount else rational.zero))) (sym (eq-eqb k j e))
          (subst (λ (i : ℕ). IsTrue (is_sum_within (coefficient_at old i) part.amount)) e within)
      | inr other ↦
          subst (λ (b : Bool). IsTrue (is_sum_within (coefficient_at old j) (if b then part.amount else rational.zero))) (sym (ne_eqb k j other))
          (sum_with_zero (coefficient_at old j) (numbers j))
    ]))
  where
    up_to : (o : Option ℕ) → IfSome o (λ (k : ℕ). 0 < k) → IfSome o (λ (k : ℕ). k ≤ unwrap_or o 0)
    up_to None h = tt
    up_to (Some k) h = omega arith

    terms_from_one : (form : LinearForm) (parts : List Part) (n : ℕ) → IsFormOf parts (parts_number parts) form → AllByRecursion (IsPartUpTo n) parts → AreTermsFrom 1 form.terms
    terms_from_one form parts n is h = from_one n form.terms is.terms (is.columns n h)

sum_part : (old more : LinearForm) (part : Part) → AreTerms old.terms → AreNumbers old → IsPart part → IsFormOf (part ∷ []) (parts_number (part ∷ [])) more → IsSumWithin old more → IsTrue (is_sum_within (coefficient_at old (unwrap_or part.column 0)) part.amount)
sum_part old more part terms numbers is form within =
    let k : ℕ = unwrap_or part.column 0 in
    let is_amount : coefficient_at more k ≡ part.amount =
    part_numbers part more is form.terms form.is k ∙ ap (λ (b : Bool). if b then part.amount else rational.zero) (eq-eqb k k refl) in
    subst (λ (c : Rational). IsTrue (is_sum_within (coefficient_at old k) c)) is_amount
    (within_sum old more terms form.terms numbers form.within within k)

pub added_answer : (old more new : LinearForm) (part : Part) (r : Result Unit LinFault) → AreTerms old.terms → AreNumbers old → IsPart part → IsFormOf (part ∷ []) (parts_number (part ∷ [])) more → AddedAnswer old more new r → AddPartAnswer old part new r
added_answer old more new part (Ok u) terms numbers is form answer = record {
  sum_within = sum_part old more part terms numbers is form answer.0;
  is = λ x. answer.1.number x ∙ ap (plus (number_at x old)) (form.is x);
  terms = answer.1.terms;
  columns = λ n c d. answer.1.columns n c (form.columns n (d, tt));
  within = sum_are_numbers old more new terms form.terms numbers form.within answer.0 answer.1;
}
added_answer old more new part (Err Past) terms numbers is form answer = λ within. answer.0 (part_sum old more part terms numbers is form within)
added_answer old more new part (Err Memory) terms numbers is form answer = tt

-- ---- parts that are added one after another

parts_number-none : (x : ColumnNumbers) → parts_number [] x ≡ rational.zero
unfolding parts_number
parts_number-none x = sum_at_none (with_one x)

parts_number-append : (before : List Part) (part : Part) (x : ColumnNumbers) → parts_number (before ++ part ∷ []) x ≡ plus (parts_number before x) (parts_number (part ∷ []) x)
unfolding parts_number
parts_number-append before part x =
    ap (sum_at (with_one x)) (map-append part_term before (part ∷ [])) ∙ sum_at_append (with_one x) (map part_term before) (part_term part ∷ [])

-- parts before are in the form, and a rest is left
pub record IsAdding (parts : List Part) (form : LinearForm) (rest : List Part) : Type 0 where
  pub before : List Part
  pub whole : parts ≡ before ++ rest
  pub fault : parts_fault [] parts ≡ parts_fault (map part_term before) rest
  pub form_is : IsFormOf before (parts_number before) form
  pub each : AllByRecursion IsPart rest

pub add_start : (parts : List Part) (form : LinearForm) → AllByRecursion IsPart parts → form ≡ form_of [] rational.zero → IsAdding parts form parts
add_start parts form each e = record {
  before = [];
  whole = refl;
  fault = refl;
  form_is =
      let is = constant_form rational.zero zero_is_number in
      subst (IsFormOf [] (parts_number [])) (sym e)
      (record { is = λ x. is.is x ∙ sym (parts_number-none x); terms = is.terms; columns = is.columns; within = is.within });
  each = each;
}

all_last : (n : ℕ) (before : List Part) (part : Part) → AllByRecursion (IsPartUpTo n) (before ++ part ∷ []) → AllByRecursion (IsPartUpTo n) before × IsPartUpTo n part
all_last n [] part h = (tt, h.0)
all_last n (p ∷ before) part h = let rest = all_last n before part h.1 in ((h.0, rest.0), rest.1)

-- what the terms before add up to is the coefficient of the form
so_far : (before : List Part) (form : LinearForm) (j : ℕ) → IsFormOf before (parts_number before) form → coefficient_at form j ≡ sum_of_column j rational.zero (map part_term before)
unfolding parts_number
so_far before form j is = coefficient_is form (map part_term before) is.terms is.is j

pub add_step : (parts : List Part) (old new : LinearForm) (rest more : List Part) (part : Part) → IsAdding parts old rest → rest ≡ part ∷ more → IsAdded old part new → IsAdding parts new more
unfolding parts_fault
add_step parts old new rest more part a e added =
    let each : AllByRecursion IsPart (part ∷ more) = subst (AllByRecursion IsPart) e a.each in
    let k : ℕ = unwrap_or part.column 0 in
    let within : IsTrue (is_sum_within (sum_of_column k rational.zero (map part_term a.before)) part.amount) =
    subst (λ (c : Rational). IsTrue (is_sum_within c part.amount)) (so_far a.before old k a.form_is) added.sum_within in
    record {
      before = a.before ++ part ∷ [];
      whole = a.whole ∙ ap (λ (ps : List Part). a.before ++ ps) e ∙ sym (append_assoc a.before (part ∷ []) more);
      fault =
          a.fault ∙ ap (parts_fault (map part_term a.before)) e
          ∙ first_of_second _ _ _ (none_past _ part.place within) (ap (λ (ts : List Term). parts_fault ts more) (sym (map-append part_term a.before (part ∷ []))));
      form_is = record {
        is = λ x. added.is x ∙ ap (λ (v : Rational). plus v (parts_number (part ∷ []) x)) (a.form_is.is x) ∙ sym (parts_number-append a.before part x);
        terms = added.terms;
        columns = λ n h. let both = all_last n a.before part h in added.columns n (a.form_is.columns n both.0) both.1;
        within = added.within;
      };
      each = each.1;
    }

pub add_past : (parts : List Part) (old : LinearForm) (rest more : List Part) (part : Part) (fault : Fault) → IsAdding parts old rest → rest ≡ part ∷ more → ¬ IsTrue (is_sum_within (coefficient_at old (unwrap_or part.column 0)) part.amount) → fault ≡ fault_at kind.Past part.place → parts_fault [] parts ≡ Some fault
unfolding parts_fault
add_past parts old rest more part fault a e past is =
    let k : ℕ = unwrap_or part.column 0 in
    a.fault ∙ ap (parts_fault (map part_term a.before)) e
    ∙ first_of_first _ _ _ (past_some _ part.place (λ t. past (subst (λ (c : Rational). IsTrue (is_sum_within c part.amount)) (sym (so_far a.before old k a.form_is)) t)))
    ∙ ap Some (sym is)

pub add_end : (parts : List Part) (form : LinearForm) (rest : List Part) → IsAdding parts form rest → rest ≡ [] → (parts_fault [] parts ≡ None) × IsFormOf parts (parts_number parts) form
unfolding parts_fault
add_end parts form rest a e =
    let whole : a.before ≡ parts = sym (append-nil a.before) ∙ ap (λ (ps : List Part). a.before ++ ps) (sym e) ∙ sym a.whole in
    (a.fault ∙ ap (parts_fault (map part_term a.before)) e, subst (λ (ps : List Part). IsFormOf ps (parts_number ps) form) whole a.form_is)

pub none_left : (parts : List Part) → length parts ≡ 0 → parts ≡ []
none_left [] e = refl
none_left (p ∷ ps) e = absurd (omega arith)

pub part_first : (parts : List Part) (form : LinearForm) (rest more : List Part) (part : Part) → IsAdding parts form rest → rest ≡ part ∷ more → IsPart part
part_first parts form rest more part a e = let each : AllByRecursion IsPart (part ∷ more) = subst (AllByRecursion IsPart) e a.each in each.0

-- ---- what was read

pub known_form : (side : Side) (q : Rational) (form : LinearForm) → IsSide side → side ≡ Known q → form ≡ form_of [] q → (side_fault side ≡ None) × IsSideForm side form
known_form side q form is e f =
    let number : IsTrue (is_number q) = subst IsSide e is in
    subst (λ (s : Side). (side_fault s ≡ None) × IsSideForm s form) (sym e)
    (refl, subst (IsFormOf [] (λ x. q)) (sym f) (constant_form q number))

pub parts_have_form : (side : Side) (parts : Vec Part) (items : List Part) (r : Result LinearForm PlainStop) → side ≡ Parts parts → items ≡ parts.items → MadeAnswer (parts_fault [] items) (IsFormOf items (parts_number items)) r → MadeAnswer (side_fault side) (IsSideForm side) r
parts_have_form side parts items r e f answer =
    subst (λ (s : Side). MadeAnswer (side_fault s) (IsSideForm s) r) (sym e)
    (subst (λ (ps : List Part). MadeAnswer (parts_fault [] ps) (IsFormOf ps (parts_number ps)) r) f answer)
