-- A guarded row holds exactly where its guard is off or its comparison holds, wherever the form lies within its end.
use Rattle.std.proofs.Common.{◌≡◌, ◌↔◌, Bool, true, false, cond, Result, Ok, Err, [], ◌∷◌, ap, sym, ◌∙◌, subst}
use Rattle.zim_answer.proofs.BindLemmas.{bind_gave}
use Rattle.zim_fraction.specs.Limit.{is_sum_within}
use Rattle.zim_fraction.specs.Answers.{difference_answer}
use Rattle.zim_fraction.specs.declared.fault.Past.{Past}
use Rattle.zim_rational.specs.Rational.{Rational, one, plus, minus, negate, times, IsAtMost, IsBinary}
use Rattle.zim_rational.proofs.Rows.{guarded_at_most, guarded_at_least}
use Rattle.zim_linear.specs.Forms.{LinearForm, ColumnNumbers, number_at}
use Rattle.zim_rows.specs.declared.rows.GivenRow.{GivenRow}
use Rattle.zim_rows.specs.declared.rows.RowFrom.{RowFrom}
use Rattle.zim_rows.specs.Points.{KeepConstraints, given_constraint}
use Rattle.zim_forms.specs.Algebra.{◌⊕◌, ◌⊙◌, form_sum}
use Rattle.zim_forms.proofs.AlgebraLaws.{number_sum, number_multiple}
use Rattle.zim_forms.proofs.MultipleLaws.{sum_is}
use Rattle.zim_logic_rows.specs.declared.Literal.{Literal}
use Rattle.zim_logic_rows.specs.Literals.{is}
use Rattle.zim_logic_rows.specs.Guards.{under_most, under_least}
use Rattle.zim_logic_rows.proofs.BinaryLaws.{most_kept, least_kept}

difference_gave : (a b r : Rational) → difference_answer a b ≡ Ok r → r ≡ minus a b
unfolding difference_answer
difference_gave a b r h = by (is_sum_within a (negate b)) (record {}) h where
  by : (t : Bool) (past : Past) → cond t (Ok (minus a b)) (Err past) ≡ Ok r → r ≡ minus a b
  by true past h = cc
  by false past h = cc

-- c + slack b at a point
number_guarded : (x : ColumnNumbers) (c b : LinearForm) (slack d : Rational) → slack ≡ d → number_at x (c ⊕ slack ⊙ b) ≡ plus (number_at x c) (times d (number_at x b))
number_guarded x c b slack d e =
    number_sum x c (slack ⊙ b) ∙ ap (plus (number_at x c)) (number_multiple x slack b ∙ ap (λ (s : Rational). times s (number_at x b)) e)

pub guarded_most_kept : (x : ColumnNumbers) (source : RowFrom) (c : LinearForm) (guard : Literal) (v high : Rational) (row : GivenRow) → under_most source c guard v high ≡ Ok row → IsBinary (number_at x (is guard)) → IsAtMost (number_at x c) high
    → KeepConstraints x (given_constraint row ∷ []) ↔ (number_at x (is guard) ≡ one → IsAtMost (number_at x c) v)
guarded_most_kept x source c guard v high row h two under =
    let (slack, slack_is, rest) = bind_gave (difference_answer high v) _ row h in
    let (f, f_is, last) = bind_gave (form_sum c (slack ⊙ is guard)) _ row rest in
    let e = ap (number_at x) (sum_is c (slack ⊙ is guard) f f_is) ∙ number_guarded x c (is guard) slack (minus high v) (difference_gave high v slack slack_is) in
    let kept = most_kept x source f high in
    let says = guarded_at_most (number_at x c) v high (number_at x (is guard)) two under in
    subst (λ (r : GivenRow). KeepConstraints x (given_constraint r ∷ []) ↔ (number_at x (is guard) ≡ one → IsAtMost (number_at x c) v)) (row_is last) (
      λ k. says.0 (subst (λ (n : Rational). IsAtMost n high) e (kept.0 k)),
      λ k. kept.1 (subst (λ (n : Rational). IsAtMost n high) (sym e) (says.1 k)),
    ) where
      row_is : {r s : GivenRow} → ◌≡◌ {A = Result GivenRow Past} (Ok r) (Ok s) → r ≡ s
      row_is h = cc

pub guarded_least_kept : (x : ColumnNumbers) (source : RowFrom) (c : LinearForm) (guard : Literal) (v low : Rational) (row : GivenRow) → under_least source c guard v low ≡ Ok row → IsBinary (number_at x (is guard)) → IsAtMost low (number_at x c)
    → KeepConstraints x (given_constraint row ∷ []) ↔ (number_at x (is guard) ≡ one → IsAtMost v (number_at x c))
guarded_least_kept x source c guard v low row h two above =
    let (slack, slack_is, rest) = bind_gave (difference_answer low v) _ row h in
    let (f, f_is, last) = bind_gave (form_sum c (slack ⊙ is guard)) _ row rest in
    let e = ap (number_at x) (sum_is c (slack ⊙ is guard) f f_is) ∙ number_guarded x c (is guard) slack (minus low v) (difference_gave low v slack slack_is) in
    let kept = least_kept x source f low in
    let says = guarded_at_least (number_at x c) v low (number_at x (is guard)) two above in
    subst (λ (r : GivenRow). KeepConstraints x (given_constraint r ∷ []) ↔ (number_at x (is guard) ≡ one → IsAtMost v (number_at x c))) (row_is last) (
      λ k. says.0 (subst (IsAtMost low) e (kept.0 k)),
      λ k. kept.1 (subst (IsAtMost low) (sym e) (says.1 k)),
    ) where
      row_is : {r s : GivenRow} → ◌≡◌ {A = Result GivenRow Past} (Ok r) (Ok s) → r ≡ s
      row_is h = cc
