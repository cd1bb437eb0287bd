-- A column times a number, made from the form 0.
use Rattle.std.proofs.Common.{ℕ, ◌≡◌, [], map, Result, Ok, Err, IfOk, ap, ◌∙◌}
use Rattle.zim_fault.specs.declared.memory.Memory.{Memory}
use Rattle.zim_rational.specs.Rational.{Rational, zero, plus, times}
use Rattle.zim_rational.proofs.Ring.{zero_plus}
use Rattle.zim_linear.specs.Forms.{Term, LinearForm, AreTerms, form_of, number_at}
use Rattle.zim_linear.proofs.UniqueLaws.{one_form}
use Rattle.zim_forms.specs.Algebra.{◌⊕◌, ◌⊙◌, known, the}
use Rattle.zim_forms.proofs.AlgebraLaws.{number_sum, number_known}
use Rattle.zim_forms.proofs.OrderLaws.{with_terms_ordered}

ordered : (q : Rational) (x : ℕ) → AreTerms (q ⊙ the x).terms
ordered q x = with_terms_ordered [] (map (λ (t : Term). (t.0, times t.1 q)) (the x).terms) tt

pub nought_more : (q : Rational) (x : ℕ) → known zero ⊕ q ⊙ the x ≡ q ⊙ the x
nought_more q x =
    one_form (known zero ⊕ q ⊙ the x) (q ⊙ the x) (with_terms_ordered [] (q ⊙ the x).terms tt) (ordered q x)
    (λ v. number_sum v (known zero) (q ⊙ the x) ∙ ap (λ (r : Rational). plus r (number_at v (q ⊙ the x))) (number_known v zero) ∙ zero_plus (number_at v (q ⊙ the x)))

pub times_made : (q : Rational) (x : ℕ) (r : Result LinearForm Memory) (nought : LinearForm) (z : Rational) → z ≡ zero → nought ≡ form_of [] z → IfOk r (λ form. form ≡ nought ⊕ q ⊙ the x) → IfOk r (λ form. form ≡ q ⊙ the x)
times_made q x (Ok form) nought z e is made =
    made ∙ ap (λ (f : LinearForm). f ⊕ q ⊙ the x) (is ∙ ap (form_of []) e) ∙ nought_more q x
times_made q x (Err refused) nought z e is made = tt
