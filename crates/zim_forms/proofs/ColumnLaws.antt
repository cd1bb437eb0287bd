-- A form with a term of a column that stands behind all its columns.
use Rattle.std.proofs.Common.{ℕ, suc, inl, inr, ◌≡◌, ◌≢◌, ◌<◌, ◌≤◌, Bool, true, false, List, [], ◌∷◌, ◌++◌, arith, ap, sym, ◌∙◌, subst}
use Rattle.zim_rational.specs.Rational.{Rational, zero, plus, times, same}
use Rattle.zim_rational.proofs.Ring.{plus_zero, plus_comm, plus_assoc, zero_times}
use Rattle.zim_rational.proofs.Whole.{same_Decides}
use Rattle.zim_linear.specs.Forms.{Term, LinearForm, ColumnNumbers, AreTermsFrom, AreTerms, AreColumns, form_of, sum_at, number_at}
use Rattle.zim_linear.proofs.FormLaws.{same_or_other, sum_at_none, sum_at_more, sum_at_append}
use Rattle.zim_linear.proofs.UniqueLaws.{one_form}
use Rattle.zim_forms.specs.Algebra.{◌⊕◌, ◌⊙◌, the, IsBehind}
use Rattle.zim_forms.proofs.AlgebraLaws.{number_sum, number_multiple, number_the}
use Rattle.zim_forms.proofs.OrderLaws.{with_terms_ordered}

-- what the test says
pub same_from : (q z : Rational) (b : Bool) → b ≡ same q z → z ≡ zero → b ≡ true → q ≡ zero
same_from q z b e n t = (same_Decides q z).0 (sym e ∙ t) ∙ n

pub other_from : (q z : Rational) (b : Bool) → b ≡ same q z → z ≡ zero → b ≡ false → q ≢ zero
other_from q z b e n f h = let t : same q z ≡ true = (same_Decides q z).1 (h ∙ sym n) in cc

-- a term behind all others
ended_from : (first n : ℕ) (ts : List Term) (x : ℕ) (q : Rational) → first ≤ x → n < x → AreColumns n ts → AreTermsFrom first ts → q ≢ zero → AreTermsFrom first (ts ++ (x, q) ∷ [])
ended_from first n [] x q le lt over terms some = (le, some, tt)
ended_from first n (t ∷ ts) x q le lt over terms some =
    let few : t.0 ≤ n = over.1 in
    (terms.0, terms.1, ended_from (suc t.0) n ts x q (omega arith) lt over.2 terms.2 some)

pub ended_terms : (a : LinearForm) (x : ℕ) (q : Rational) → IsBehind x a → AreTerms a.terms → q ≢ zero → AreTerms (a.terms ++ (x, q) ∷ [])
ended_terms a x q behind terms some = ended_from 0 behind.0 a.terms x q (omega arith) behind.1 behind.2 terms some

number_ended : (v : ColumnNumbers) (a : LinearForm) (x : ℕ) (q : Rational) → number_at v (form_of (a.terms ++ (x, q) ∷ []) a.constant) ≡ plus (number_at v a) (times q (v x))
unfolding number_at
number_ended v a x q =
    ap (λ (n : Rational). plus n a.constant) (sum_at_append v a.terms ((x, q) ∷ []) ∙ ap (plus (sum_at v a.terms)) (sum_at_more v (x, q) [] ∙ ap (plus (times q (v x))) (sum_at_none v) ∙ plus_zero (times q (v x))))
    ∙ plus_assoc (sum_at v a.terms) (times q (v x)) a.constant
    ∙ ap (plus (sum_at v a.terms)) (plus_comm (times q (v x)) a.constant)
    ∙ sym (plus_assoc (sum_at v a.terms) a.constant (times q (v x)))

number_with : (v : ColumnNumbers) (a : LinearForm) (x : ℕ) (q : Rational) → number_at v (a ⊕ q ⊙ the x) ≡ plus (number_at v a) (times q (v x))
number_with v a x q =
    number_sum v a (q ⊙ the x) ∙ ap (plus (number_at v a)) (number_multiple v q (the x) ∙ ap (times q) (number_the v x))

-- the form with that term
pub ended_is : (a : LinearForm) (x : ℕ) (q : Rational) → IsBehind x a → AreTerms a.terms → q ≢ zero → form_of (a.terms ++ (x, q) ∷ []) a.constant ≡ a ⊕ q ⊙ the x
ended_is a x q behind terms some =
    one_form (form_of (a.terms ++ (x, q) ∷ []) a.constant) (a ⊕ q ⊙ the x) (ended_terms a x q behind terms some) (with_terms_ordered a.terms (q ⊙ the x).terms terms)
    (λ v. number_ended v a x q ∙ sym (number_with v a x q))

-- without a term, where the coefficient is 0
pub unended_is : (a : LinearForm) (x : ℕ) (q : Rational) → AreTerms a.terms → q ≡ zero → a ≡ a ⊕ q ⊙ the x
unended_is a x q terms none =
    one_form a (a ⊕ q ⊙ the x) terms (with_terms_ordered a.terms (q ⊙ the x).terms terms)
    (λ v. sym (number_with v a x q ∙ ap (plus (number_at v a)) (ap (λ (r : Rational). times r (v x)) none ∙ zero_times (v x)) ∙ plus_zero (number_at v a)))

-- either way
pub made_terms : (a : LinearForm) (x : ℕ) (q : Rational) (made : List Term) → IsBehind x a → AreTerms a.terms → (q ≢ zero → made ≡ a.terms ++ (x, q) ∷ []) → (q ≡ zero → made ≡ a.terms) → AreTerms made
made_terms a x q made behind terms more same =
    elim (same_or_other q zero) [
      | inl e ↦ subst AreTerms (sym (same e)) terms
      | inr some ↦ subst AreTerms (sym (more some)) (ended_terms a x q behind terms some)
    ]

pub made_form : (a : LinearForm) (x : ℕ) (q : Rational) (made : List Term) → IsBehind x a → AreTerms a.terms → (q ≢ zero → made ≡ a.terms ++ (x, q) ∷ []) → (q ≡ zero → made ≡ a.terms) → form_of made a.constant ≡ a ⊕ q ⊙ the x
made_form a x q made behind terms more same =
    elim (same_or_other q zero) [
      | inl e ↦ ap (λ (ts : List Term). form_of ts a.constant) (same e) ∙ unended_is a x q terms e
      | inr some ↦ ap (λ (ts : List Term). form_of ts a.constant) (more some) ∙ ended_is a x q behind terms some
    ]
