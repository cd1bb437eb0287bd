-- A form in order is determined by its numbers: two of one number at every assignment are one form.
use Rattle.std.proofs.Common.{ℕ, suc, ◌≡◌, ◌≢◌, ◌<◌, ◌≤◌, inl, inr, List, [], ◌∷◌, arith, refl, ap, ap₂, sym, ◌∙◌}
use Rattle.std.proofs.lemmas.Bool.{cases_order}
use Rattle.zim_rational.specs.Rational.{Rational, plus, minus, times}
use Rattle.zim_rational.proofs.Ring.{zero_plus, plus_minus}
use Rattle.zim_linear.specs.Forms.{Term, LinearForm, ColumnNumbers, AreTermsFrom, AreTerms, sum_at, number_at, form_of}
use Rattle.zim_linear.proofs.ProbeLaws.{only, nowhere, sum_nowhere, sum_below, sum_first, sum_rest}

-- a first term isn't missed by a list whose columns stand behind it
missed : (n m : ℕ) (t : Term) (ts others : List Term) → AreTermsFrom n (t ∷ ts) → AreTermsFrom m others → t.0 < m → sum_at (only t.0) (t ∷ ts) ≢ sum_at (only t.0) others
missed n m t ts others terms behind above e =
    terms.1 (sym (sum_first n t ts terms) ∙ e ∙ sum_below t.0 m others above behind)

one_list : (n m : ℕ) (xs ys : List Term) → AreTermsFrom n xs → AreTermsFrom m ys → ((x : ColumnNumbers) → sum_at x xs ≡ sum_at x ys) → xs ≡ ys
one_list n m [] [] left right same = refl
one_list n m [] (t ∷ ys) left right same = absurd (missed m (suc t.0) t ys [] right tt (omega arith) (sym (same (only t.0))))
one_list n m (s ∷ xs) [] left right same = absurd (missed n (suc s.0) s xs [] left tt (omega arith) (same (only s.0)))
one_list n m (s ∷ xs) (t ∷ ys) left right same =
    elim (cases_order s.0 t.0) [
      | inl e ↦
          let coefficient : s.1 ≡ t.1 =
          sym (sum_first n s xs left) ∙ same (only s.0) ∙ ap (λ (j : ℕ). sum_at (only j) (t ∷ ys)) e ∙ sum_first m t ys right in
          ap₂ (λ (u : Term) (us : List Term). u ∷ us) (ap₂ (λ (j : ℕ) (q : Rational). (j, q)) e coefficient) (one_list (suc s.0) (suc t.0) xs ys left.2 right.2 (λ x. sym (sum_rest x s xs) ∙ ap₂ minus (same x) (ap₂ times coefficient (ap x e)) ∙ sum_rest x t ys))
      | inr other ↦
          elim other [
            | inl below ↦ absurd (missed n t.0 s xs (t ∷ ys) left (let le : t.0 ≤ t.0 = omega arith in (le, right.1, right.2)) below (same (only s.0)))
            | inr above ↦ absurd (missed m s.0 t ys (s ∷ xs) right (let le : s.0 ≤ s.0 = omega arith in (le, left.1, left.2)) above (sym (same (only t.0))))
          ]
    ]

pub one_form : (f g : LinearForm) → AreTerms f.terms → AreTerms g.terms → ((x : ColumnNumbers) → number_at x f ≡ number_at x g) → f ≡ g
unfolding number_at
one_form f g left right same =
    let constant : f.constant ≡ g.constant =
    sym (ap (λ (n : Rational). plus n f.constant) (sum_nowhere f.terms) ∙ zero_plus f.constant) ∙ same nowhere ∙ ap (λ (n : Rational). plus n g.constant) (sum_nowhere g.terms) ∙ zero_plus g.constant in
    ap₂ form_of (one_list 0 0 f.terms g.terms left right (λ x. sym (plus_minus (sum_at x f.terms) f.constant) ∙ ap₂ minus (same x) constant ∙ plus_minus (sum_at x g.terms) g.constant)) constant
