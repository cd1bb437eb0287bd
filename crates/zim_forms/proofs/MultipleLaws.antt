-- What `scale` answers is what the operator answers under the limit.
use Rattle.std.proofs.Common.{◌≡◌, ◌↔◌, ◌&&◌, Bool, true, false, cond, IsTrue, List, [], ◌∷◌, map, Ok, Err, refl, ap, sym, ◌∙◌}
use Rattle.std.specs.List.{list_all}
use Rattle.std.proofs.lemmas.Bool.{and_from, and_parts, cond-true, cond-false, false_from_ne_true}
use Rattle.zim_fraction.specs.Limit.{is_number}
use Rattle.zim_fraction.specs.declared.fault.Past.{Past}
use Rattle.zim_rational.specs.Rational.{Rational, times}
use Rattle.zim_rational.proofs.Ring.{times_comm}
use Rattle.zim_linear.specs.Forms.{Term, LinearForm, number_at}
use Rattle.zim_linear.specs.Multiples.{HaveProductsWithin, IsMultipleWithin, IsMultipleOf}
use Rattle.zim_linear.proofs.UniqueLaws.{one_form}
use Rattle.zim_forms.specs.Algebra.{◌⊕◌, ◌⊙◌, form_sum, form_times}
use Rattle.zim_forms.proofs.AlgebraLaws.{number_multiple}
use Rattle.zim_forms.proofs.OrderLaws.{with_terms_ordered}

products_within : (q : Rational) (ts : List Term) → HaveProductsWithin ts q ↔ IsTrue (list_all (λ (t : Term). is_number (times t.1 q)) ts)
products_within q [] = (λ h. refl, λ h. tt)
products_within q (t ∷ ts) =
    let rest = products_within q ts in
    let others : Bool = list_all (λ (u : Term). is_number (times u.1 q)) ts in (
      λ h. and_from (is_number (times t.1 q)) others h.0 (rest.0 h.1),
      λ h. let parts = and_parts (is_number (times t.1 q)) others h in (parts.0, rest.1 parts.1),
    )

abbrev within : LinearForm → Rational → Bool
within a q = list_all (λ (t : Term). is_number (times t.1 q)) a.terms && is_number (times a.constant q)

-- what `scale` makes is the multiple by the operator
pub made_multiple : (a : LinearForm) (q : Rational) (f : LinearForm) → IsMultipleOf a q f → f ≡ q ⊙ a
made_multiple a q f made =
    one_form f (q ⊙ a) made.terms (with_terms_ordered [] (map (λ (t : Term). (t.0, times t.1 q)) a.terms) tt) (λ x. made.number x ∙ sym (number_multiple x q a ∙ times_comm q (number_at x a)))

pub times_gave : (a : LinearForm) (q : Rational) (f : LinearForm) → IsMultipleWithin a q → IsMultipleOf a q f → form_times a q ≡ Ok f
unfolding form_times
times_gave a q f fits made =
    cond-true (within a q) (Ok (q ⊙ a)) (Err (record {})) (and_from _ (is_number (times a.constant q)) ((products_within q a.terms).0 fits.0) fits.1)
    ∙ ap Ok (sym (made_multiple a q f made))

pub times_past : (a : LinearForm) (q : Rational) → ¬ IsMultipleWithin a q → form_times a q ≡ Err (record {})
unfolding form_times
times_past a q past =
    cond-false (within a q) (Ok (q ⊙ a)) (Err (record {})) (false_from_ne_true (within a q) (λ h. let parts = and_parts _ (is_number (times a.constant q)) h in past ((products_within q a.terms).1 parts.0, parts.1)))

gave_by : (b : Bool) (f g : LinearForm) (past : Past) → cond b (Ok f) (Err past) ≡ Ok g → g ≡ f
gave_by true f g past h = cc
gave_by false f g past h = cc

-- what is answered is what the operators make
pub times_is : (a : LinearForm) (q : Rational) (f : LinearForm) → form_times a q ≡ Ok f → f ≡ q ⊙ a
unfolding form_times
times_is a q f h = gave_by (within a q) (q ⊙ a) f (record {}) h

pub sum_is : (a b f : LinearForm) → form_sum a b ≡ Ok f → f ≡ a ⊕ b
unfolding form_sum
sum_is a b f h = gave_by _ (a ⊕ b) f (record {}) h
