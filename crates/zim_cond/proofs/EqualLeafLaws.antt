-- The column that is 1 exactly where two terms are equal.
use Rattle.std.proofs.Common.{ℕ, pos, ◌≡◌, ◌<◌, ◌≤◌, ◌+◌, ◌↔◌, ◌&&◌, Bool, true, IsTrue, IsFalse, List, [], ◌∷◌, ◌++◌, length, map, All, Ok, arith, ap, sym, ◌∙◌, subst}
use Rattle.std.proofs.lemmas.Bool.{and_from, and_parts, both_ways}
use Rattle.std.proofs.lemmas.List.Elements.{All-cons, All-nil}
use Rattle.zim_answer.proofs.BindLemmas.{bind_gave}
use Rattle.zim_rational.specs.Rational.{Rational, zero, one, whole, minus, negate, times, at_most, same, is_whole, IsAtMost, IsBinary}
use Rattle.zim_rational.proofs.Order.{at_most_refl, at_most_antisymm, at_most_turned, negate_at_most}
use Rattle.zim_rational.proofs.Ring.{times_negate, negate_minus}
use Rattle.zim_rational.proofs.Whole.{same_Decides}
use Rattle.zim_linear.specs.Forms.{LinearForm, AreTerms, AreColumns, number_at}
use Rattle.zim_linear.specs.Integers.{common_multiple}
use Rattle.zim_linear.proofs.NegationLaws.{number_negated}
use Rattle.zim_forms.specs.Algebra.{◌⊖◌, the}
use Rattle.zim_forms.proofs.OverLaws.{IsOver, over_difference, over_negated, over_the, over_more}
use Rattle.zim_rows.specs.declared.rows.GivenRow.{GivenRow}
use Rattle.zim_rows.specs.declared.rows.RowFrom.{RowFrom}
use Rattle.zim_rows.specs.declared.rows.Sense.TheVariants as sense
use Rattle.zim_rows.specs.System.{LinearSystem, IsGivenRow, Extends}
use Rattle.zim_rows.specs.Points.{IsSystemPoint, KeepConstraints, assigned, given_constraint, first_numbers}
use Rattle.zim_rows.specs.Steps.{step_placed, with_step}
use Rattle.zim_rows.specs.Extending.{IsValid}
use Rattle.zim_rows.proofs.StepLaws.{each_has_number, placed_is}
use Rattle.zim_rows.proofs.CutLaws.{point_cut}
use Rattle.zim_rows.proofs.ExtendLaws.{extends_further}
use Rattle.zim_rows.proofs.ExtendingLaws.{cut_twice}
use Rattle.zim_logic_rows.specs.declared.Ranged.{Ranged}
use Rattle.zim_logic_rows.specs.LogicRows.{compared_row, next_number, with_binary}
use Rattle.zim_logic_rows.specs.Literals.{literal, equal_rows, number_of}
use Rattle.zim_logic_rows.specs.Truth.{truth_column, opposite}
use Rattle.zim_logic_rows.proofs.TruthLaws.{RangesAt}
use Rattle.zim_logic_rows.proofs.AbsoluteLaws.{whole_zero}
use Rattle.zim_logic_rows.proofs.SizeLaws.{negated_whole}
use Rattle.zim_logic_rows.proofs.BinaryLaws.{binary_step}
use Rattle.zim_logic_rows.proofs.JoinLaws.{equal_rows_kept}
use Rattle.zim_logic_rows.proofs.ValidLaws.{row_is}
use Rattle.zim_vabs.specs.Meaning.{FormMade}
use Rattle.zim_vabs.proofs.AbsoluteFormLaws.{pair_parts}
use Rattle.zim_vabs.proofs.RangedLaws.{IsRangedOf}
use Rattle.zim_vabs.proofs.TermLaws.{columns_after, number_cut}
use Rattle.zim_cond.specs.Conditions.{equal_column}
use Rattle.zim_cond.specs.Meaning.{LiteralMade}
use Rattle.zim_cond.proofs.CompareLaws.{one_test, difference_least}
use Rattle.zim_cond.proofs.CompareLeafLaws.{multiple_above, multiple_is, least_made}
use Rattle.zim_cond.proofs.LiteralLaws.{from_one, literal_at, column_made, truth_makes, told_before, next_is, stays, literal_follows, literal_given}

-- ---- -T at later points

-- a form between its ends at a point lies between them at each point that begins with it
ranges_later : (earlier : LinearSystem) (t : Ranged) (q : List Rational) → AreColumns (length earlier.columns) t.form.terms → AreColumns (length q) t.form.terms → RangesAt t (first_numbers earlier q) → RangesAt t q
ranges_later earlier t q before over r =
    let e = number_cut earlier q t.form before in
    record {
      over = over;
      whole = subst (λ (n : Rational). IsTrue (is_whole n)) e r.whole;
      above = subst (IsAtMost t.low) e r.above;
      under = subst (λ (n : Rational). IsAtMost n t.high) e r.under;
    }

-- so does -T between its own
opposite_ranges : (t : Ranged) (p : List Rational) → AreTerms t.form.terms → RangesAt t p → RangesAt (opposite t) p
opposite_ranges t p ordered r =
    let e = sym (number_negated (assigned p) t.form) in
    record {
      over = (over_negated (length p) t.form (record { ordered = ordered; columns = r.over })).columns;
      whole = subst (λ (n : Rational). IsTrue (is_whole n)) e (negated_whole (number_at (assigned p) t.form) r.whole);
      above = subst (IsAtMost (negate t.high)) e (negate_at_most (number_at (assigned p) t.form) t.high r.under);
      under = subst (λ (n : Rational). IsAtMost n (negate t.low)) e (negate_at_most t.low (number_at (assigned p) t.form) r.above);
    }

turned : (k a b : Rational) → negate (times k (minus a b)) ≡ times k (minus b a)
turned k a b = sym (times_negate k (minus a b)) ∙ ap (times k) (negate_minus a b)

-- the column of `-T >= 0`, made on a later system, says whether l is at most r
opposite_made : (base before middle later : LinearSystem) (source : RowFrom) (l r : List Rational → Rational) (f : LinearForm) (t : Ranged) (b : ℕ) (after : LinearSystem) → Extends middle base → FormMade base before (λ p. minus (l p) (r p)) f middle → IsRangedOf middle.columns f t
    → IsValid later → Extends later middle → truth_column source zero (opposite t) later ≡ Ok (b, after) → LiteralMade base later (λ p. at_most (l p) (r p)) (literal b true) after
opposite_made base before middle later source l r f t b after more made ranged valid on h =
    let k : Rational = whole (pos (common_multiple f)) in
    let over : IsOver (length later.columns) t.form =
    over_more (length middle.columns) (length later.columns) t.form (columns_after later middle on) (record { ordered = ranged.ordered; columns = ranged.over }) in
    let cut : (p : List Rational) → IsSystemPoint later p → IsSystemPoint middle (first_numbers middle p) = λ p point. point_cut later middle p made.valid on point in
    truth_makes base later source zero (opposite t) (λ p. at_most (l p) (r p)) b after valid (extends_further base middle later on more) whole_zero (over_negated (length later.columns) t.form over)
    (λ p point.
    let size = each_has_number later.columns p point.columns in
    opposite_ranges t p over.ordered (ranges_later middle t p ranged.over (subst (λ (n : ℕ). AreColumns n t.form.terms) (sym size) over.columns) (ranged.ranges (first_numbers middle p) (cut p point).columns)))
    (λ p point.
    let u : List Rational = first_numbers middle p in
    let e =
    number_negated (assigned p) t.form
    ∙ ap negate (sym (number_cut middle p t.form ranged.over) ∙ multiple_is base before middle l r f t made ranged u (cut p point))
    ∙ turned k (l (first_numbers base u)) (r (first_numbers base u))
    ∙ ap (λ (v : List Rational). times k (minus (r v) (l v))) (cut_twice middle base p more) in
    ap (at_most zero) e ∙ difference_least k (r (first_numbers base p)) (l (first_numbers base p)) (multiple_above f))
    h

-- ---- the column that joins the two

equal_joined : (base s : LinearSystem) (source : RowFrom) (f h both : List Rational → Bool) (g l e : ℕ) (after : LinearSystem) → IsValid s → Extends s base
    → 0 < g → g ≤ length s.columns → ((v : List Rational) → IsSystemPoint s v → literal_at v (literal g true) ≡ number_of (f (first_numbers base v)))
    → 0 < l → l ≤ length s.columns → ((v : List Rational) → IsSystemPoint s v → literal_at v (literal l true) ≡ number_of (h (first_numbers base v)))
    → ((v : List Rational) → IsFalse (f v) → IsFalse (h v) → ⊥) → ((v : List Rational) → (f v && h v) ≡ both v) → with_binary source.place (equal_rows source g l) s ≡ Ok (e, after) → LiteralMade base s both (literal e true) after
unfolding with_binary
equal_joined base s source f h both g l e after valid over g_some g_few g_tells l_some l_few l_tells some same_truth gave =
    let n : ℕ = length s.columns in
    let b : ℕ = next_number s in
    let rows : List GivenRow = equal_rows source g l b in
    let (later, later_is, pair) = bind_gave (step_placed source.place s (binary_step rows)) (λ m. Ok (b, m)) (e, after) gave in
    let (b_is, after_is) = pair_parts b e later after pair in
    let form_over = over_difference (n + 1) (the b ⊖ the g) (the l) (over_difference (n + 1) (the b) (the g) (over_the (n + 1) b (omega arith) (omega arith)) (over_the (n + 1) g g_some (omega arith))) (over_the (n + 1) l l_some (omega arith)) in
    let row : GivenRow = compared_row source (the b ⊖ the g ⊖ the l) sense.Equal (negate one) in
    let each : All (IsGivenRow (n + 1)) rows = All-cons (IsGivenRow (n + 1)) row [] (row_is (n + 1) source (the b ⊖ the g ⊖ the l) sense.Equal (negate one) form_over) (All-nil (IsGivenRow (n + 1))) in
    let all : LiteralMade base s both (literal b true) (with_step s (binary_step rows)) =
    column_made base s both source.place rows later valid over each later_is
    (λ v w point two.
    let u : List Rational = first_numbers base v in
    let at_b = next_is s v w point in
    let kept = equal_rows_kept source (assigned (v ++ w ∷ [])) g l b (f u) (h u) (subst IsBinary (sym at_b) two) (told_before base s f (literal g true) v w point g_some g_few g_tells) (told_before base s h (literal l true) v w point l_some l_few l_tells) (some u) in
    subst (λ (m : Rational). KeepConstraints (assigned (v ++ w ∷ [])) (map given_constraint rows) ↔ ((m ≡ one) ↔ IsTrue (both u))) at_b
    (subst (λ (t : Bool). KeepConstraints (assigned (v ++ w ∷ [])) (map given_constraint rows) ↔ ((number_at (assigned (v ++ w ∷ [])) (the b) ≡ one) ↔ IsTrue t)) (same_truth u) kept)) in
    literal_given base s both (literal b true) (literal e true) (with_step s (binary_step rows)) after all (ap (λ (m : ℕ). literal m true) b_is) (sym (placed_is source.place s later (binary_step rows) later_is) ∙ after_is)

-- one of two numbers is at most the other, and where both are they are equal
one_at_least : (a b : Rational) → IsFalse (at_most b a) → IsFalse (at_most a b) → ⊥
one_at_least a b f g = both_ways (at_most a b) g (at_most_turned b a f)

both_at_most : (a b : Rational) → (at_most b a && at_most a b) ≡ same a b
both_at_most a b =
    one_test (at_most b a && at_most a b) (same a b)
    (λ h. let parts = and_parts (at_most b a) (at_most a b) h in (same_Decides a b).1 (at_most_antisymm a b parts.1 parts.0))
    (λ h.
    let e = (same_Decides a b).0 h in
    and_from (at_most b a) (at_most a b) (subst (λ (q : Rational). IsAtMost q a) e (at_most_refl a)) (subst (IsAtMost a) e (at_most_refl a)))

-- the column of `T == 0` says whether l and r are equal
pub equal_made : (base before middle : LinearSystem) (source : RowFrom) (l r : List Rational → Rational) (f : LinearForm) (t : Ranged) (e : ℕ) (after : LinearSystem) → Extends middle base → FormMade base before (λ p. minus (l p) (r p)) f middle → IsRangedOf middle.columns f t
    → equal_column source t middle ≡ Ok (e, after) → LiteralMade base middle (λ p. same (l p) (r p)) (literal e true) after
equal_made base before middle source l r f t e after more made ranged h =
    let (g, g_is, a) = bind_gave (truth_column source zero t middle) _ (e, after) h in
    let (k, k_is, last) = bind_gave (truth_column source zero (opposite t) g.1) _ (e, after) a in
    let low : List Rational → Bool = λ p. at_most (r p) (l p) in
    let high : List Rational → Bool = λ p. at_most (l p) (r p) in
    let equal : List Rational → Bool = λ p. same (l p) (r p) in
    let first : LiteralMade base middle low (literal g.0 true) g.1 = least_made base before middle source l r f t g.0 g.1 more made ranged g_is in
    let second : LiteralMade base g.1 high (literal k.0 true) k.1 = opposite_made base before middle g.1 source l r f t k.0 k.1 more made ranged first.valid first.widens.extends k_is in
    let more_g : Extends g.1 base = extends_further base middle g.1 first.widens.extends more in
    let more_k : Extends k.1 base = extends_further base g.1 k.1 second.widens.extends more_g in
    let le : length g.1.columns ≤ length k.1.columns = columns_after k.1 g.1 second.widens.extends in
    let in_g : g.0 ≤ length g.1.columns = first.in_columns in
    let third : LiteralMade base k.1 equal (literal e true) after =
    equal_joined base k.1 source low high equal g.0 k.0 e after second.valid more_k
    (from_one base middle g.1 low (literal g.0 true) first) (omega arith) (stays base middle g.1 k.1 low (literal g.0 true) first more_g second.widens.extends)
    (from_one base g.1 k.1 high (literal k.0 true) second) second.in_columns second.tells
    (λ v. one_at_least (l v) (r v)) (λ v. both_at_most (l v) (r v)) last in
    literal_follows base middle k.1 after high equal (literal k.0 true) (literal e true) (literal_follows base middle g.1 k.1 low high (literal g.0 true) (literal k.0 true) first second) third
