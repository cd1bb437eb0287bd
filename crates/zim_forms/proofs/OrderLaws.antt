-- Forms by the operators keep the order of columns, so that they are the forms that the code makes.
use Rattle.std.proofs.Common.{ℕ, suc, ◌≡◌, ◌≢◌, ◌<◌, ◌≤◌, IsFalse, nat_lt, nat_eq, List, [], ◌∷◌, arith, sym, ◌∙◌}
use Rattle.std.proofs.lemmas.Bool.{eqb-false, ltb-true, ltb-false, both_ways}
use Rattle.zim_rational.specs.Rational.{Rational, zero, plus, same}
use Rattle.zim_rational.proofs.Whole.{same_Decides}
use Rattle.zim_linear.specs.Forms.{Term, LinearForm, AreTermsFrom, AreTerms, AreColumns}
use Rattle.zim_linear.specs.Sums.{IsSumOf}
use Rattle.zim_linear.proofs.UniqueLaws.{one_form}
use Rattle.zim_forms.specs.Algebra.{with_term, with_terms, ◌⊕◌}
use Rattle.zim_forms.proofs.AlgebraLaws.{pick, number_sum}

lower : (n m : ℕ) (ts : List Term) → n ≤ m → AreTermsFrom m ts → AreTermsFrom n ts
lower n m [] le h = tt
lower n m (t ∷ ts) le h = let first : m ≤ t.0 = h.0 in (omega arith, h.1, h.2)

some_from : (q : Rational) → IsFalse (same q zero) → q ≢ zero
some_from q f e = both_ways (same q zero) f ((same_Decides q zero).1 e)

pub with_term_ordered : (n : ℕ) (t : Term) (ts : List Term) → n ≤ t.0 → AreTermsFrom n ts → AreTermsFrom n (with_term t ts)
unfolding with_term
with_term_ordered n t [] le h =
    pick (AreTermsFrom n) (same t.1 zero) [] (t ∷ []) (λ _. tt) (λ k. (le, some_from t.1 k, tt))
with_term_ordered n t (u ∷ us) le h =
    let first : n ≤ u.0 = h.0 in
    pick (AreTermsFrom n) (nat_lt u.0 t.0) (u ∷ with_term t us) _
    (λ k. let lt : u.0 < t.0 = ltb-true u.0 t.0 k in (first, h.1, with_term_ordered (suc u.0) t us (omega arith) h.2))
    (λ k.
    let ge : t.0 ≤ u.0 = ltb-false u.0 t.0 k in
    pick (AreTermsFrom n) (nat_eq u.0 t.0) _ _
    (λ _. pick (AreTermsFrom n) (same (plus u.1 t.1) zero) us ((u.0, plus u.1 t.1) ∷ us) (λ _. lower n (suc u.0) us (omega arith) h.2) (λ i. (first, some_from (plus u.1 t.1) i, h.2)))
    (λ ne.
    let other : u.0 ≢ t.0 = eqb-false u.0 t.0 ne in
    pick (AreTermsFrom n) (same t.1 zero) (u ∷ us) (t ∷ u ∷ us) (λ _. h) (λ i. (le, some_from t.1 i, (let more : suc t.0 ≤ u.0 = omega arith in more, h.1, h.2)))))

pub with_terms_ordered : (ts more : List Term) → AreTerms ts → AreTerms (with_terms ts more)
unfolding with_terms
with_terms_ordered ts [] h = h
with_terms_ordered ts (t ∷ more) h = with_terms_ordered (with_term t ts) more (with_term_ordered 0 t ts (omega arith) h)

pub with_term_over : (n : ℕ) (t : Term) (ts : List Term) → 0 < t.0 → t.0 ≤ n → AreColumns n ts → AreColumns n (with_term t ts)
unfolding with_term
with_term_over n t [] some few h = pick (AreColumns n) (same t.1 zero) [] (t ∷ []) (λ _. tt) (λ _. (some, few, tt))
with_term_over n t (u ∷ us) some few h =
    pick (AreColumns n) (nat_lt u.0 t.0) (u ∷ with_term t us) _
    (λ _. (h.0, h.1, with_term_over n t us some few h.2))
    (λ _.
    pick (AreColumns n) (nat_eq u.0 t.0) _ _
    (λ _. pick (AreColumns n) (same (plus u.1 t.1) zero) us ((u.0, plus u.1 t.1) ∷ us) (λ _. h.2) (λ _. (h.0, h.1, h.2)))
    (λ _. pick (AreColumns n) (same t.1 zero) (u ∷ us) (t ∷ u ∷ us) (λ _. h) (λ _. (some, few, h))))

pub with_terms_over : (n : ℕ) (ts more : List Term) → AreColumns n ts → AreColumns n more → AreColumns n (with_terms ts more)
unfolding with_terms
with_terms_over n ts [] h k = h
with_terms_over n ts (t ∷ more) h k = with_terms_over n (with_term t ts) more (with_term_over n t ts k.0 k.1 h) k.2

-- what `add` makes is the sum by the operator
pub made_sum : (a b f : LinearForm) → AreTerms a.terms → IsSumOf a b f → f ≡ a ⊕ b
made_sum a b f ordered made =
    one_form f (a ⊕ b) made.terms (with_terms_ordered a.terms b.terms ordered) (λ x. made.number x ∙ sym (number_sum x a b))
