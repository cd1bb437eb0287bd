-- The coefficients of forms, and what a form's number at every assignment says of them.
use Rattle.std.proofs.Common.{ℕ, zero, suc, ◌≡◌, ◌≢◌, ◌<◌, ◌≤◌, Bool, List, [], ◌∷◌, IsTrue, inl, inr, arith, refl, sym, ap, ap₂, subst, ◌∙◌}
use Rattle.std.specs.Prelude.{if◌then◌else◌, cond}
use Rattle.std.proofs.lemmas.Bool.{eq-eqb, ne_eqb, cases_eq, cases_lt}
use Rattle.zim_rational.specs.Rational as rational
use Rattle.zim_rational.specs.Rational.{Rational, one, plus, times}
use Rattle.zim_rational.proofs.Ring.{zero_plus, plus_zero, plus_comm, plus_assoc, plus_cancel, times_plus, times_zero, times_one}
use Rattle.zim_rational.proofs.Sums.{total_map_plus, total_map_same}
use Rattle.zim_fraction.specs.Limit.{is_number, is_sum_within}
use Rattle.zim_linear.specs.Forms.{Term, LinearForm, ColumnNumbers, AreTermsFrom, AreTerms, AreColumns, sum_at, number_at}
use Rattle.zim_linear.specs.Sums.{HasSumWithin, HaveSumsWithin, IsSumWithin, IsSumOf}
use Rattle.zim_linear.proofs.FormLaws.{sum_at_none, sum_at_more}
use Rattle.zim_linear.proofs.ProbeLaws.{only, nowhere, sum_nowhere, sum_below, sum_first}
use Rattle.zim_plain.specs.Parts.{with_one, sum_of_column, coefficient_in, coefficient_at, AreNumbers}
use Rattle.zim_plain.proofs.Limits.{sum_with_zero, zero_with_sum, sum_is_number}

-- ---- assignments

pub only_same : (i j : ℕ) → i ≡ j → only j i ≡ one
unfolding only
only_same i j e = ap (λ (b : Bool). cond b one rational.zero) (eq-eqb i j e)

pub only_other : (i j : ℕ) → i ≢ j → only j i ≡ rational.zero
unfolding only
only_other i j e = ap (λ (b : Bool). cond b one rational.zero) (ne_eqb i j e)

pub sum_at_same : (x y : ColumnNumbers) (ts : List Term) → ((j : ℕ) → x j ≡ y j) → sum_at x ts ≡ sum_at y ts
unfolding sum_at
sum_at_same x y ts same = total_map_same (λ (t : Term). times t.1 (x t.0)) (λ (t : Term). times t.1 (y t.0)) (λ t. ap (times t.1) (same t.0)) ts

both : ColumnNumbers → ColumnNumbers → ColumnNumbers
both x y j = plus (x j) (y j)

sum_at_both : (x y : ColumnNumbers) (ts : List Term) → sum_at (both x y) ts ≡ plus (sum_at x ts) (sum_at y ts)
unfolding sum_at both
sum_at_both x y ts =
    total_map_same (λ (t : Term). times t.1 (plus (x t.0) (y t.0))) (λ (t : Term). plus (times t.1 (x t.0)) (times t.1 (y t.0))) (λ t. times_plus t.1 (x t.0) (y t.0)) ts
    ∙ total_map_plus (λ (t : Term). times t.1 (x t.0)) (λ (t : Term). times t.1 (y t.0)) ts

-- ---- the coefficient of a column

-- the coefficient of a column of terms in order is their number where this column alone is 1
pub coefficient_probe : (n j : ℕ) (ts : List Term) → AreTermsFrom n ts → coefficient_in ts j ≡ sum_at (only j) ts
unfolding coefficient_in
coefficient_probe n j [] terms = sym (sum_at_none (only j))
coefficient_probe n j (t ∷ ts) terms =
    elim (cases_eq t.0 j) [
      | inl e ↦
          ap (λ (b : Bool). if b then t.1 else coefficient_in ts j) (eq-eqb t.0 j e) ∙ sym (sum_first n t ts terms) ∙ ap (λ (k : ℕ). sum_at (only k) (t ∷ ts)) e
      | inr other ↦
          ap (λ (b : Bool). if b then t.1 else coefficient_in ts j) (ne_eqb t.0 j other)
          ∙ coefficient_probe (suc t.0) j ts terms.2
          ∙ sym (zero_plus (sum_at (only j) ts))
          ∙ ap (λ (q : Rational). plus q (sum_at (only j) ts)) (sym (times_zero t.1) ∙ ap (times t.1) (sym (only_other t.0 j other)))
          ∙ sym (sum_at_more (only j) t ts)
    ]

-- what terms add up to at a column
pub column_probe : (j : ℕ) (s : Rational) (ts : List Term) → sum_of_column j s ts ≡ plus s (sum_at (only j) ts)
unfolding sum_of_column
column_probe j s [] = sym (plus_zero s) ∙ ap (plus s) (sym (sum_at_none (only j)))
column_probe j s (t ∷ ts) =
    elim (cases_eq t.0 j) [
      | inl e ↦
          ap (λ (b : Bool). sum_of_column j (if b then plus s t.1 else s) ts) (eq-eqb t.0 j e)
          ∙ column_probe j (plus s t.1) ts
          ∙ plus_assoc s t.1 (sum_at (only j) ts)
          ∙ ap (plus s) (ap (λ (q : Rational). plus q (sum_at (only j) ts)) (sym (times_one t.1) ∙ ap (times t.1) (sym (only_same t.0 j e))) ∙ sym (sum_at_more (only j) t ts))
      | inr other ↦
          ap (λ (b : Bool). sum_of_column j (if b then plus s t.1 else s) ts) (ne_eqb t.0 j other)
          ∙ column_probe j s ts
          ∙ ap (plus s) (sym (zero_plus (sum_at (only j) ts)) ∙ ap (λ (q : Rational). plus q (sum_at (only j) ts)) (sym (times_zero t.1) ∙ ap (times t.1) (sym (only_other t.0 j other))) ∙ sym (sum_at_more (only j) t ts))
    ]

with_one-nowhere : (j : ℕ) → with_one nowhere j ≡ only 0 j
unfolding nowhere
with_one-nowhere zero = sym (only_same 0 0 refl)
with_one-nowhere (suc j) = sym (only_other (suc j) 0 (λ e. omega arith))

with_one-only : (k j : ℕ) → with_one (only (suc k)) j ≡ both (only 0) (only (suc k)) j
unfolding both
with_one-only k zero = sym (ap₂ plus (only_same 0 0 refl) (only_other 0 (suc k) (λ e. omega arith)) ∙ plus_zero one)
with_one-only k (suc j) = sym (ap (λ (q : Rational). plus q (only (suc k) (suc j))) (only_other (suc j) 0 (λ e. omega arith)) ∙ zero_plus (only (suc k) (suc j)))

-- a form's constant is what terms that have its number at all assignments add up to at column 0
pub constant_is : (form : LinearForm) (ts : List Term) → ((x : ColumnNumbers) → number_at x form ≡ sum_at (with_one x) ts) → form.constant ≡ sum_of_column 0 rational.zero ts
unfolding number_at
constant_is form ts same =
    sym (zero_plus form.constant) ∙ ap (λ (q : Rational). plus q form.constant) (sym (sum_nowhere form.terms)) ∙ same nowhere
    ∙ sum_at_same (with_one nowhere) (only 0) ts with_one-nowhere
    ∙ sym (zero_plus (sum_at (only 0) ts)) ∙ sym (column_probe 0 rational.zero ts)

-- at each column a form's number at all assignments, if it is that of terms, has the coefficient that the terms add up to
pub coefficient_is : (form : LinearForm) (ts : List Term) → AreTerms form.terms → ((x : ColumnNumbers) → number_at x form ≡ sum_at (with_one x) ts) → (j : ℕ) → coefficient_at form j ≡ sum_of_column j rational.zero ts
unfolding number_at
coefficient_is form ts terms same zero = constant_is form ts same
coefficient_is form ts terms same (suc k) =
    let j : ℕ = suc k in
    let constant : form.constant ≡ sum_at (only 0) ts =
    constant_is form ts same ∙ column_probe 0 rational.zero ts ∙ zero_plus (sum_at (only 0) ts) in
    let there : plus (sum_at (only j) form.terms) form.constant ≡ plus (sum_at (only j) ts) form.constant =
    same (only j) ∙ sum_at_same (with_one (only j)) (both (only 0) (only j)) ts (with_one-only k) ∙ sum_at_both (only 0) (only j) ts
    ∙ plus_comm (sum_at (only 0) ts) (sum_at (only j) ts) ∙ ap (plus (sum_at (only j) ts)) (sym constant) in
    coefficient_probe 0 j form.terms terms ∙ plus_cancel (sum_at (only j) form.terms) (sum_at (only j) ts) form.constant there
    ∙ sym (zero_plus (sum_at (only j) ts)) ∙ sym (column_probe j rational.zero ts)

-- the number of a form where each column but 0 is 0, and where one alone is 1
pub constant_probe : (form : LinearForm) → number_at nowhere form ≡ form.constant
unfolding number_at
constant_probe form = ap (λ (q : Rational). plus q form.constant) (sum_nowhere form.terms) ∙ zero_plus form.constant

pub form_probe : (form : LinearForm) (j : ℕ) → AreTerms form.terms → number_at (only j) form ≡ plus (coefficient_in form.terms j) form.constant
unfolding number_at
form_probe form j terms = ap (λ (q : Rational). plus q form.constant) (sym (coefficient_probe 0 j form.terms terms))

constant_plus : (a b form : LinearForm) → ((x : ColumnNumbers) → number_at x form ≡ plus (number_at x a) (number_at x b)) → form.constant ≡ plus a.constant b.constant
constant_plus a b form same = sym (constant_probe form) ∙ same nowhere ∙ ap₂ plus (constant_probe a) (constant_probe b)

-- a sum of forms adds up their coefficients
pub coefficient_plus : (a b form : LinearForm) → AreTerms a.terms → AreTerms b.terms → AreTerms form.terms → ((x : ColumnNumbers) → number_at x form ≡ plus (number_at x a) (number_at x b)) → (j : ℕ) → coefficient_at form j ≡ plus (coefficient_at a j) (coefficient_at b j)
coefficient_plus a b form p q r same zero = constant_plus a b form same
coefficient_plus a b form p q r same (suc k) =
    let j : ℕ = suc k in
    plus_cancel (coefficient_in form.terms j) (plus (coefficient_in a.terms j) (coefficient_in b.terms j)) form.constant
    (sym (form_probe form j r) ∙ same (only j) ∙ ap₂ plus (form_probe a j p) (form_probe b j q)
    ∙ regrouped (coefficient_in a.terms j) a.constant (coefficient_in b.terms j) b.constant
    ∙ ap (plus (plus (coefficient_in a.terms j) (coefficient_in b.terms j))) (sym (constant_plus a b form same)))
  where
    regrouped : (a b c d : Rational) → plus (plus a b) (plus c d) ≡ plus (plus a c) (plus b d)
    regrouped a b c d =
        plus_assoc a b (plus c d) ∙ ap (plus a) (sym (plus_assoc b c d) ∙ ap (λ (q : Rational). plus q d) (plus_comm b c) ∙ plus_assoc c b d) ∙ sym (plus_assoc a c (plus b d))

-- ---- sums within the limit, column by column

coefficient_none : (n j : ℕ) (ts : List Term) → AreTermsFrom n ts → j < n → coefficient_in ts j ≡ rational.zero
coefficient_none n j ts terms below = coefficient_probe n j ts terms ∙ sum_below j n ts below terms

-- a first term's column has its coefficient, and the columns behind it have those of the rest
coefficient_first : (n : ℕ) (t : Term) (ts : List Term) → coefficient_in (t ∷ ts) t.0 ≡ t.1
unfolding coefficient_in
coefficient_first n t ts = ap (λ (b : Bool). if b then t.1 else coefficient_in ts t.0) (eq-eqb t.0 t.0 refl)

coefficient_rest : (j : ℕ) (t : Term) (ts : List Term) → t.0 ≢ j → coefficient_in (t ∷ ts) j ≡ coefficient_in ts j
unfolding coefficient_in
coefficient_rest j t ts other = ap (λ (b : Bool). if b then t.1 else coefficient_in ts j) (ne_eqb t.0 j other)

-- a term whose column stands before all others
later : (s : Term) (n : ℕ) (ts : List Term) → AreTermsFrom n ts → s.0 < n → HasSumWithin s ts
later s n [] terms below = tt
later s n (t ∷ ts) terms below =
    let first : n ≤ t.0 = terms.0 in
    (λ e. absurd (omega arith), later s (suc t.0) ts terms.2 (omega arith))

-- a term whose column has a sum within the limit
term_within : (n : ℕ) (s : Term) (ts : List Term) → AreTermsFrom n ts → IsTrue (is_sum_within s.1 (coefficient_in ts s.0)) → HasSumWithin s ts
term_within n s [] terms h = tt
term_within n s (t ∷ ts) terms h =
    elim (cases_eq t.0 s.0) [
      | inl e ↦
          let is : coefficient_in (t ∷ ts) s.0 ≡ t.1 = ap (coefficient_in (t ∷ ts)) (sym e) ∙ coefficient_first n t ts in
          (λ _. subst (λ (q : Rational). IsTrue (is_sum_within s.1 q)) is h, later s (suc t.0) ts terms.2 (omega arith))
      | inr other ↦
          (λ e. absurd (other (sym e)), term_within (suc t.0) s ts terms.2 (subst (λ (q : Rational). IsTrue (is_sum_within s.1 q)) (coefficient_rest s.0 t ts other) h))
    ]

coefficient_nothing : (j : ℕ) → coefficient_in [] j ≡ rational.zero
unfolding coefficient_in
coefficient_nothing j = refl

within_term : (n : ℕ) (s : Term) (ts : List Term) → AreTermsFrom n ts → IsTrue (is_number s.1) → HasSumWithin s ts → IsTrue (is_sum_within s.1 (coefficient_in ts s.0))
within_term n s [] terms number h = subst (λ (q : Rational). IsTrue (is_sum_within s.1 q)) (sym (coefficient_nothing s.0)) (sum_with_zero s.1 number)
within_term n s (t ∷ ts) terms number h =
    elim (cases_eq t.0 s.0) [
      | inl e ↦ subst (λ (q : Rational). IsTrue (is_sum_within s.1 q)) (sym (ap (coefficient_in (t ∷ ts)) (sym e) ∙ coefficient_first n t ts)) (h.0 (sym e))
      | inr other ↦ subst (λ (q : Rational). IsTrue (is_sum_within s.1 q)) (sym (coefficient_rest s.0 t ts other)) (within_term (suc t.0) s ts terms.2 number h.1)
    ]

-- each column from 1 up has a sum of its coefficients within the limit
have_sums : (n : ℕ) (ss ts : List Term) → AreTermsFrom n ss → AreTermsFrom 1 ts → ((j : ℕ) → n ≤ j → 0 < j → IsTrue (is_sum_within (coefficient_in ss j) (coefficient_in ts j))) → HaveSumsWithin ss ts
have_sums n [] ts p q h = tt
have_sums n (s ∷ ss) ts p q h =
    let first : n ≤ s.0 = p.0 in (
      elim (cases_lt 0 s.0) [
        | inl some ↦ term_within 1 s ts q (subst (λ (c : Rational). IsTrue (is_sum_within c (coefficient_in ts s.0))) (coefficient_first n s ss) (h s.0 first some))
        | inr none ↦ later s 1 ts q (omega arith)
      ],
      have_sums (suc s.0) ss ts p.2 q
          (λ j le some. subst (λ (c : Rational). IsTrue (is_sum_within c (coefficient_in ts j))) (coefficient_rest j s ss (λ e. omega arith)) (h j (omega arith) some)),
    )

pub sums_had : (n m j : ℕ) (ss ts : List Term) → AreTermsFrom n ss → AreTermsFrom m ts → IsTrue (is_number (coefficient_in ss j)) → IsTrue (is_number (coefficient_in ts j)) → HaveSumsWithin ss ts → IsTrue (is_sum_within (coefficient_in ss j) (coefficient_in ts j))
unfolding coefficient_in
sums_had n m j [] ts p q a b h = zero_with_sum (coefficient_in ts j) b
sums_had n m j (s ∷ ss) ts p q a b h =
    elim (cases_eq s.0 j) [
      | inl e ↦
          let is : coefficient_in (s ∷ ss) j ≡ s.1 = ap (coefficient_in (s ∷ ss)) (sym e) ∙ coefficient_first n s ss in
          let number : IsTrue (is_number s.1) = subst (λ (c : Rational). IsTrue (is_number c)) is a in
          subst (λ (c : Rational). IsTrue (is_sum_within c (coefficient_in ts j))) (sym is)
          (subst (λ (k : ℕ). IsTrue (is_sum_within s.1 (coefficient_in ts k))) e (within_term m s ts q number h.0))
      | inr other ↦
          let is : coefficient_in (s ∷ ss) j ≡ coefficient_in ss j = coefficient_rest j s ss other in
          subst (λ (c : Rational). IsTrue (is_sum_within c (coefficient_in ts j))) (sym is)
          (sums_had (suc s.0) m j ss ts p.2 q (subst (λ (c : Rational). IsTrue (is_number c)) is a) b h.1)
    ]

pub from_one : (n : ℕ) (ts : List Term) → AreTerms ts → AreColumns n ts → AreTermsFrom 1 ts
from_one n [] terms columns = tt
from_one n (t ∷ ts) terms columns = (columns.0, terms.1, terms.2)

-- two forms have a sum within the limit exactly where each column has
pub sum_within : (a b : LinearForm) → AreTerms a.terms → AreTermsFrom 1 b.terms → ((j : ℕ) → IsTrue (is_sum_within (coefficient_at a j) (coefficient_at b j))) → IsSumWithin a b
sum_within a b p q h = (have_sums 0 a.terms b.terms p q above, h 0)
  where
    above : (j : ℕ) → 0 ≤ j → 0 < j → IsTrue (is_sum_within (coefficient_in a.terms j) (coefficient_in b.terms j))
    above zero le some = absurd (omega arith)
    above (suc j) le some = h (suc j)

pub within_sum : (a b : LinearForm) → AreTerms a.terms → AreTerms b.terms → AreNumbers a → AreNumbers b → IsSumWithin a b → (j : ℕ) → IsTrue (is_sum_within (coefficient_at a j) (coefficient_at b j))
within_sum a b p q m n h zero = h.1
within_sum a b p q m n h (suc j) = sums_had 0 0 (suc j) a.terms b.terms p q (m (suc j)) (n (suc j)) h.0

-- a sum of forms within the limit has its numbers there
pub sum_are_numbers : (a b form : LinearForm) → AreTerms a.terms → AreTerms b.terms → AreNumbers a → AreNumbers b → IsSumWithin a b → IsSumOf a b form → AreNumbers form
sum_are_numbers a b form p q m n within is j =
    subst (λ (c : Rational). IsTrue (is_number c)) (sym (coefficient_plus a b form p q is.terms is.number j))
    (sum_is_number (coefficient_at a j) (coefficient_at b j) (within_sum a b p q m n within j))
