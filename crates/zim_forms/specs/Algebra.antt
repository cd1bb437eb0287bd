-- Forms by operators: their terms and their constants whatever the limit, and what each operator answers under it.
use Rattle.std.specs.Prelude.{ℕ, ◌<◌, ◌&&◌, ◌||◌, not, cond, nat_eq, nat_lt, List, [], ◌∷◌, map, Result, Ok, Err}
use Rattle.std.specs.List.{list_all}
use Rattle.zim_rational.specs.Rational.{Rational, zero, one, plus, times, same}
use Rattle.zim_fraction.specs.Limit.{is_number, is_sum_within}
use Rattle.zim_fraction.specs.declared.fault.Past.{Past}
use Rattle.zim_linear.specs.Forms.{Term, LinearForm, form_of, AreColumns}
use Rattle.zim_linear.specs.Sums.{negated_form}
use Rattle.zim_linear.specs.declared.faults.LinFault.{LinFault}
use Rattle.zim_linear.specs.declared.faults.LinFault.TheVariants as refusal
use Rattle.zim_answer.specs.Gives.{Cause, NoMemory, Met, Gives}

-- Terms with a further one: its coefficient is added to that of its column, and a column whose coefficient comes to 0 has no term.
unfoldable pub with_term : Term → List Term → List Term
with_term t [] = cond (same t.1 zero) [] (t ∷ [])
with_term t (u ∷ us) =
    cond
    (nat_lt u.0 t.0)
    (u ∷ with_term t us)
    (cond
    (nat_eq u.0 t.0)
    (cond (same (plus u.1 t.1) zero) us ((u.0, plus u.1 t.1) ∷ us))
    (cond (same t.1 zero) (u ∷ us) (t ∷ u ∷ us)))

-- Terms with further ones, one after another.
unfoldable pub with_terms : List Term → List Term → List Term
with_terms ts [] = ts
with_terms ts (t ∷ more) = with_terms (with_term t ts) more

infixl 30 ◌⊕◌
-- The sum of two forms.
abbrev pub ◌⊕◌ : LinearForm → LinearForm → LinearForm
a ⊕ b = form_of (with_terms a.terms b.terms) (plus a.constant b.constant)

infixl 30 ◌⊖◌
-- The difference of two forms.
abbrev pub ◌⊖◌ : LinearForm → LinearForm → LinearForm
a ⊖ b = a ⊕ negated_form b

infixl 40 ◌⊙◌
-- A form times a number.
abbrev pub ◌⊙◌ : Rational → LinearForm → LinearForm
q ⊙ a = form_of (with_terms [] (map (λ (t : Term). (t.0, times t.1 q)) a.terms)) (times a.constant q)

-- The form that is the number q.
abbrev pub known : Rational → LinearForm
known q = form_of [] q

-- The form that is column j.
abbrev pub the : ℕ → LinearForm
the j = form_of ((j, one) ∷ []) zero

-- Column x stands behind all columns of the form.
abbrev pub IsBehind : ℕ → LinearForm → Type 0
IsBehind x a = (n : ℕ) × (n < x) × AreColumns n a.terms

-- The sum of two forms, past where the sum of two coefficients of one column is, or that of the constants.
unfoldable pub form_sum : LinearForm → LinearForm → Result LinearForm Past
form_sum a b =
    cond
    (list_all (λ (s : Term). list_all (λ (t : Term). not (nat_eq s.0 t.0) || is_sum_within s.1 t.1) b.terms) a.terms && is_sum_within a.constant b.constant)
    (Ok (a ⊕ b))
    (Err (record {}))

-- A form times a number, past where the product with a coefficient or with the constant is.
unfoldable pub form_times : LinearForm → Rational → Result LinearForm Past
form_times a q =
    cond
    (list_all (λ (t : Term). is_number (times t.1 q)) a.terms && is_number (times a.constant q))
    (Ok (q ⊙ a))
    (Err (record {}))

-- What an error of a call on forms tells.
abbrev pub form_cause : LinFault → Cause Past
form_cause refusal.Past = Met (record {})
form_cause refusal.Memory = NoMemory

-- A call gives the form that the answer says, and is past exactly where the answer is. Want of memory is free.
abbrev pub GivesForm : Result LinearForm Past → Result LinearForm LinFault → Type 0
GivesForm answer result = Gives (λ form. form) form_cause answer result
