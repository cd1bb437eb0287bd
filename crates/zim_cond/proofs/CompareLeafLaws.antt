-- A comparison of two terms by `>=`, `>`, `<` or `<=` is its literal.
use Rattle.std.proofs.Common.{ℕ, pos, ◌≡◌, ◌<◌, true, IsTrue, List, length, Ok, arith, ap, ap₂, sym, ◌∙◌, subst}
use Rattle.std.proofs.lemmas.Int.{ints}
use Rattle.zim_answer.proofs.BindLemmas.{bind_gave}
use Rattle.zim_fault.specs.declared.faults.Place.{Place}
use Rattle.zim_rational.specs.Rational.{Rational, zero, one, whole, minus, times, at_most, below, is_whole, IsBelow}
use Rattle.zim_rational.proofs.Whole.{whole_below}
use Rattle.zim_linear.specs.Forms.{LinearForm, number_at}
use Rattle.zim_linear.specs.Sums.{negated_form}
use Rattle.zim_linear.specs.Integers.{common_multiple}
use Rattle.zim_linear.proofs.WholeEndLaws.{multiple_some}
use Rattle.zim_formula.specs.Ground.{term_number}
use Rattle.zim_formula.specs.GroundRules.{is_term_over}
use Rattle.zim_formula.specs.declared.ground.GTerm.{GTerm}
use Rattle.zim_forms.specs.Algebra.{◌⊖◌, form_sum}
use Rattle.zim_forms.proofs.AlgebraLaws.{number_difference, number_multiple}
use Rattle.zim_forms.proofs.MultipleLaws.{sum_is}
use Rattle.zim_forms.proofs.OverLaws.{IsOver, over_difference}
use Rattle.zim_rows.specs.declared.rows.RowFrom.{RowFrom}
use Rattle.zim_rows.specs.System.{LinearSystem, Extends}
use Rattle.zim_rows.specs.Points.{IsSystemPoint, assigned, first_numbers}
use Rattle.zim_rows.specs.Extending.{IsValid}
use Rattle.zim_rows.proofs.ExtendLaws.{extends_further}
use Rattle.zim_logic_rows.specs.declared.Ranged.{Ranged}
use Rattle.zim_logic_rows.specs.LogicRows.{past_at}
use Rattle.zim_logic_rows.specs.Literals.{literal}
use Rattle.zim_logic_rows.specs.Truth.{truth_column}
use Rattle.zim_logic_rows.proofs.AbsoluteLaws.{whole_zero}
use Rattle.zim_vabs.specs.Meaning.{FormMade}
use Rattle.zim_vabs.specs.Terms.{makes_term}
use Rattle.zim_vabs.proofs.AbsoluteFormLaws.{pair_parts}
use Rattle.zim_vabs.proofs.RangedLaws.{IsRangedOf, past_gave}
use Rattle.zim_vabs.proofs.TermLaws.{term_told, stays_made}
use Rattle.zim_cond.specs.Conditions.{difference_of}
use Rattle.zim_cond.specs.Meaning.{LiteralMade}
use Rattle.zim_cond.proofs.CompareLaws.{difference_least, difference_one, one_whole}
use Rattle.zim_cond.proofs.LiteralLaws.{truth_makes}

-- the difference of two terms is a form that is the difference of their numbers
pub difference_made : (base before : LinearSystem) (statement : ℕ) (place : Place) (left right : GTerm) (form : LinearForm) (after : LinearSystem) → IsValid before → Extends before base
    → IsTrue (is_term_over (length base.columns) left) → IsTrue (is_term_over (length base.columns) right) → difference_of statement place left right before ≡ Ok (form, after)
    → FormMade base before (λ p. minus (term_number (assigned p) left) (term_number (assigned p) right)) form after
difference_made base before statement place left right form after is more over_left over_right h =
    let (f, f_is, a) = bind_gave (makes_term statement left before) _ (form, after) h in
    let (g, g_is, b) = bind_gave (makes_term statement right f.1) _ (form, after) a in
    let (sum, sum_gave, c) = bind_gave (past_at place (form_sum f.0 (negated_form g.0))) _ (form, after) b in
    let (form_same, after_same) = pair_parts sum form g.1 after c in
    let first = term_told base statement left over_left before is more f.0 f.1 f_is in
    let more_f : Extends f.1 base = extends_further base before f.1 first.widens.extends more in
    let second = term_told base statement right over_right f.1 first.valid more_f g.0 g.1 g_is in
    let kept = stays_made base before f.1 g.1 (λ p. term_number (assigned p) left) f.0 first is more_f second.valid second.widens second.covered in
    let made : sum ≡ f.0 ⊖ g.0 = sum_is f.0 (negated_form g.0) sum (past_gave place _ sum sum_gave) in
    let n : ℕ = length g.1.columns in
    let over : IsOver n (f.0 ⊖ g.0) = over_difference n f.0 g.0 (record { ordered = kept.ordered; columns = kept.columns }) (record { ordered = second.ordered; columns = second.columns }) in
    let d : List Rational → Rational = λ p. minus (term_number (assigned p) left) (term_number (assigned p) right) in
    let whole_form : FormMade base before d (f.0 ⊖ g.0) g.1 =
    record {
      valid = second.valid;
      widens = kept.widens;
      ordered = over.ordered;
      columns = over.columns;
      tells = λ q point. number_difference (assigned q) f.0 g.0 ∙ ap₂ minus (kept.tells q point) (second.tells q point);
      covered = kept.covered;
    } in
    subst (λ (m : LinearSystem). FormMade base before d form m) after_same (subst (λ (k : LinearForm). FormMade base before d k g.1) (sym made ∙ form_same) whole_form)

-- the multiple is above 0
pub multiple_above : (f : LinearForm) → IsBelow zero (whole (pos (common_multiple f)))
unfolding zero
multiple_above f =
    let some : 0 < common_multiple f = multiple_some f in
    (whole_below (pos 0) (pos (common_multiple f))).1 (omega (arith, ints))

-- at a point, the multiple of a form that is a - b
pub multiple_is : (base before middle : LinearSystem) (l r : List Rational → Rational) (f : LinearForm) (t : Ranged) → FormMade base before (λ p. minus (l p) (r p)) f middle → IsRangedOf middle.columns f t → (p : List Rational) → IsSystemPoint middle p
    → number_at (assigned p) t.form ≡ times (whole (pos (common_multiple f))) (minus (l (first_numbers base p)) (r (first_numbers base p)))
multiple_is base before middle l r f t made ranged p point =
    ap (number_at (assigned p)) ranged.form ∙ number_multiple (assigned p) (whole (pos (common_multiple f))) f ∙ ap (times (whole (pos (common_multiple f)))) (made.tells p point)

-- the column of `T >= 0` says whether r is at most l
pub least_made : (base before middle : LinearSystem) (source : RowFrom) (l r : List Rational → Rational) (f : LinearForm) (t : Ranged) (b : ℕ) (after : LinearSystem) → Extends middle base → FormMade base before (λ p. minus (l p) (r p)) f middle → IsRangedOf middle.columns f t
    → truth_column source zero t middle ≡ Ok (b, after) → LiteralMade base middle (λ p. at_most (r p) (l p)) (literal b true) after
least_made base before middle source l r f t b after more made ranged h =
    truth_makes base middle source zero t (λ p. at_most (r p) (l p)) b after made.valid more whole_zero (record { ordered = ranged.ordered; columns = ranged.over })
    (λ p point. ranged.ranges p point.columns)
    (λ p point. ap (at_most zero) (multiple_is base before middle l r f t made ranged p point) ∙ difference_least (whole (pos (common_multiple f))) (l (first_numbers base p)) (r (first_numbers base p)) (multiple_above f))
    h

-- that of `T >= 1` says whether r is below l
pub one_made : (base before middle : LinearSystem) (source : RowFrom) (l r : List Rational → Rational) (f : LinearForm) (t : Ranged) (b : ℕ) (after : LinearSystem) → Extends middle base → FormMade base before (λ p. minus (l p) (r p)) f middle → IsRangedOf middle.columns f t
    → truth_column source one t middle ≡ Ok (b, after) → LiteralMade base middle (λ p. below (r p) (l p)) (literal b true) after
one_made base before middle source l r f t b after more made ranged h =
    truth_makes base middle source one t (λ p. below (r p) (l p)) b after made.valid more one_whole (record { ordered = ranged.ordered; columns = ranged.over })
    (λ p point. ranged.ranges p point.columns)
    (λ p point.
    let e = multiple_is base before middle l r f t made ranged p point in
    ap (at_most one) e ∙ difference_one (whole (pos (common_multiple f))) (l (first_numbers base p)) (r (first_numbers base p)) (multiple_above f) (subst (λ (q : Rational). IsTrue (is_whole q)) e (ranged.ranges p point.columns).whole))
    h
