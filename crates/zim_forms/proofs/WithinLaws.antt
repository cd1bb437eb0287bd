-- What `add` answers is what the operator answers under the limit.
use Rattle.std.proofs.Common.{◌≡◌, ◌↔◌, Bool, true, false, not, ◌&&◌, ◌||◌, IsTrue, nat_eq, List, [], ◌∷◌, Ok, Err, refl, ap, sym, ◌∙◌}
use Rattle.std.specs.List.{list_all}
use Rattle.std.proofs.lemmas.Bool.{eqb-true, eq-eqb, and_from, and_parts, cond-true, cond-false, false_from_ne_true}
use Rattle.zim_fraction.specs.Limit.{is_sum_within}
use Rattle.zim_linear.specs.Forms.{Term, LinearForm, AreTerms}
use Rattle.zim_linear.specs.Sums.{HasSumWithin, HaveSumsWithin, IsSumWithin, IsSumOf}
use Rattle.zim_forms.specs.Algebra.{◌⊕◌, form_sum}
use Rattle.zim_forms.proofs.OrderLaws.{made_sum}

abbrev one_within : Term → Term → Bool
one_within s t = not (nat_eq s.0 t.0) || is_sum_within s.1 t.1

within_from : (s t : Term) → (s.0 ≡ t.0 → IsTrue (is_sum_within s.1 t.1)) ↔ IsTrue (one_within s t)
within_from s t = by_test (nat_eq s.0 t.0) (is_sum_within s.1 t.1) (eqb-true s.0 t.0) (eq-eqb s.0 t.0) where
  by_test : (b w : Bool) → (IsTrue b → s.0 ≡ t.0) → (s.0 ≡ t.0 → IsTrue b) → (s.0 ≡ t.0 → IsTrue w) ↔ IsTrue (not b || w)
  by_test true w f g = (λ h. h (f refl), λ h _. h)
  by_test false w f g = (λ h. refl, λ h e. let k = g e in cc)

row_within : (s : Term) (ts : List Term) → HasSumWithin s ts ↔ IsTrue (list_all (one_within s) ts)
row_within s [] = (λ h. refl, λ h. tt)
row_within s (t ∷ ts) =
    let first = within_from s t in
    let rest = row_within s ts in (
      λ h. and_from (one_within s t) (list_all (one_within s) ts) (first.0 h.0) (rest.0 h.1),
      λ h. let parts = and_parts (one_within s t) (list_all (one_within s) ts) h in (first.1 parts.0, rest.1 parts.1),
    )

rows_within : (ss ts : List Term) → HaveSumsWithin ss ts ↔ IsTrue (list_all (λ (s : Term). list_all (one_within s) ts) ss)
rows_within [] ts = (λ h. refl, λ h. tt)
rows_within (s ∷ ss) ts =
    let first = row_within s ts in
    let rest = rows_within ss ts in (
      λ h. and_from (list_all (one_within s) ts) (list_all (λ (s : Term). list_all (one_within s) ts) ss) (first.0 h.0) (rest.0 h.1),
      λ h. let parts = and_parts (list_all (one_within s) ts) (list_all (λ (s : Term). list_all (one_within s) ts) ss) h in (first.1 parts.0, rest.1 parts.1),
    )

abbrev within : LinearForm → LinearForm → Bool
within a b = list_all (λ (s : Term). list_all (one_within s) b.terms) a.terms && is_sum_within a.constant b.constant

pub sum_gave : (a b f : LinearForm) → AreTerms a.terms → IsSumWithin a b → IsSumOf a b f → form_sum a b ≡ Ok f
unfolding form_sum
sum_gave a b f ordered fits made =
    cond-true (within a b) (Ok (a ⊕ b)) (Err (record {})) (and_from _ (is_sum_within a.constant b.constant) ((rows_within a.terms b.terms).0 fits.0) fits.1)
    ∙ ap Ok (sym (made_sum a b f ordered made))

pub sum_past : (a b : LinearForm) → ¬ IsSumWithin a b → form_sum a b ≡ Err (record {})
unfolding form_sum
sum_past a b past =
    cond-false (within a b) (Ok (a ⊕ b)) (Err (record {})) (false_from_ne_true (within a b) (λ h. let parts = and_parts _ (is_sum_within a.constant b.constant) h in past ((rows_within a.terms b.terms).1 parts.0, parts.1)))
