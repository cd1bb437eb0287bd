-- The absolute value of a form: its step widens the system, and its form is the value at each point.
use Rattle.std.proofs.Common.{ℕ, suc, Bool, true, false, cond, pos, neg_ℤ, ◌≡◌, ◌<◌, ◌+◌, ◌-◌, IsTrue, List, [], ◌∷◌, ◌++◌, length, length-append, drop, drop-cons, get_or, Result, Ok, Err, All, arith, ap, ap₂, sym, ◌∙◌, subst}
use Rattle.std.specs.Int.{◌∣◌}
use Rattle.std.proofs.lemmas.Int.{ints}
use Rattle.std.proofs.lemmas.Bool.{eqb-true}
use native.Mathlib.Nat.{one-dvd}
use Rattle.std.proofs.lemmas.List.Elements.{All-cons, All-nil}
use Rattle.zim_answer.proofs.BindLemmas.{bind_gave}
use Rattle.zim_fraction.specs.Limit.{is_number}
use Rattle.zim_fraction.specs.Answers.{sum_answer, product_answer}
use Rattle.zim_fraction.specs.declared.fault.Past.{Past}
use Rattle.zim_rational.specs.Rational.{Rational, zero, one, whole, plus, minus, negate, times, over, is_whole, IsAtMost}
use Rattle.zim_rational.specs.Rounding.{absolute, larger}
use Rattle.zim_rational.proofs.Order.{at_most_zero-one}
use Rattle.zim_rational.proofs.Whole.{whole_at_most, whole_is_whole, over_times}
use Rattle.zim_rational.proofs.Parts.{whole_different}
use Rattle.zim_linear.specs.Forms.{LinearForm, number_at}
use Rattle.zim_linear.specs.Integers.{common_multiple}
use Rattle.zim_linear.proofs.WholeEndLaws.{multiple_some}
use Rattle.zim_decimal.specs.Short.{is_short, scale}
use Rattle.zim_forms.specs.Exact.{exact_quotient}
use Rattle.zim_forms.specs.Algebra.{◌⊕◌, ◌⊖◌, ◌⊙◌, the}
use Rattle.zim_forms.proofs.AlgebraLaws.{number_multiple, number_the}
use Rattle.zim_forms.proofs.OverLaws.{IsOver, over_sum, over_difference, over_multiple, over_the, over_more}
use Rattle.zim_rows.specs.declared.rows.Column.{Column}
use Rattle.zim_rows.specs.declared.rows.GivenRow.{GivenRow}
use Rattle.zim_rows.specs.declared.rows.RowFrom.{RowFrom}
use Rattle.zim_rows.specs.declared.rows.Sense.TheVariants.{AtLeast, AtMost}
use Rattle.zim_rows.specs.System.{LinearSystem, IsColumn, IsGivenRow, Extends}
use Rattle.zim_rows.specs.Points.{IsSystemPoint, assigned, first_numbers}
use Rattle.zim_rows.specs.Covered.{IsCovered}
use Rattle.zim_rows.specs.Steps.{Step, with_step, step_placed, binary}
use Rattle.zim_rows.specs.Extending.{IsValid, Widens, Fits, FitsOnce, HasShortSides}
use Rattle.zim_rows.proofs.StepLaws.{each_has_number, step_widens, step_extends, fits_after, placed_is}
use Rattle.zim_rows.proofs.CutLaws.{point_cut}
use Rattle.zim_rows.proofs.CoveredStepLaws.{short_further}
use Rattle.zim_rows.proofs.ExtendingLaws.{cut_twice}
use Rattle.zim_rows.proofs.ShortLaws.{short_from_divides}
use Rattle.zim_logic_rows.specs.declared.Ranged.{Ranged}
use Rattle.zim_logic_rows.specs.LogicRows.{compared_row, next_number}
use Rattle.zim_logic_rows.specs.Truth.{truth_step}
use Rattle.zim_logic_rows.specs.Absolute.{size_column, absolute_made, absolute_step}
use Rattle.zim_logic_rows.proofs.TruthLaws.{RangesAt, truth_of, truth_gave}
use Rattle.zim_logic_rows.proofs.AbsoluteLaws.{IsLarge, whole_zero, absolute_only, absolute_fits}
use Rattle.zim_logic_rows.proofs.SizeLaws.{share_absolute, large_low, large_high, size_from_zero, larger_whole, negated_whole}
use Rattle.zim_logic_rows.proofs.ValidLaws.{step_valid, row_is}
use Rattle.zim_vabs.specs.IntegerForms.{ranged_at}
use Rattle.zim_vabs.specs.Terms.{absolute_numbers, absolute_of}
use Rattle.zim_vabs.specs.Meaning.{FormMade}
use Rattle.zim_vabs.proofs.RangedLaws.{IsRangedOf, ranged_is, past_gave}

-- ---- what the step is

product_by : (b : Bool) (q r : Rational) (past : Past) → cond b (Ok q) (Err past) ≡ Ok r → r ≡ q
product_by true q r past h = cc
product_by false q r past h = cc

product_is : (a b r : Rational) → product_answer a b ≡ Ok r → r ≡ times a b
unfolding product_answer
product_is a b r h = product_by (is_number (times a b)) (times a b) r (record {}) h

pub quotient_is : (a b r : Rational) → exact_quotient a b ≡ Ok r → r ≡ over a b
unfolding exact_quotient
quotient_is a b r h = product_by (is_number (over a b)) (over a b) r (record {}) h

-- the step with its numbers
abbrev pub absolute_with : RowFrom → Ranged → ℕ → Step
absolute_with source t p =
    absolute_made source t p (truth_of source t zero (p + 1)) (larger zero (times (whole (neg_ℤ (pos 2))) t.low)) (larger zero (times (whole (pos 2)) t.high))

pub step_gave : (source : RowFrom) (t : Ranged) (p : ℕ) (step : Step) → absolute_step source t p ≡ Ok step → step ≡ absolute_with source t p
unfolding absolute_step
step_gave source t p step h =
    let (sign, sign_is, a) = bind_gave (truth_step source t zero (p + 1)) _ step h in
    let (low, low_is, b) = bind_gave (product_answer (whole (neg_ℤ (pos 2))) t.low) _ step a in
    let (high, high_is, c) = bind_gave (product_answer (whole (pos 2)) t.high) _ step b in
    let (right, right_is, d) = bind_gave (sum_answer (larger zero low) t.form.constant) _ step c in
    let e : absolute_made source t p sign (larger zero low) (larger zero high) ≡ step = cc in
    sym e
    ∙ ap (λ (s : Step). absolute_made source t p s (larger zero low) (larger zero high)) (truth_gave source t zero (p + 1) sign sign_is)
    ∙ ap₂ (λ (l u : Rational). absolute_made source t p (truth_of source t zero (p + 1)) (larger zero l) (larger zero u)) (product_is _ t.low low low_is) (product_is _ t.high high high_is)

-- what the encoding gave
pub record AbsoluteGave (source : RowFrom) (f : LinearForm) (s : LinearSystem) (form : LinearForm) (after : LinearSystem) : Type 0 where
  pub t : Ranged
  pub ranged : ranged_at source.place f s.columns ≡ Ok t
  pub placed_at : step_placed source.place s (absolute_with source t (next_number s)) ≡ Ok after
  pub form_is : form ≡ over one (whole (pos (common_multiple f))) ⊙ the (next_number s)

pub pair_parts : {A B F : Type 0} (a c : A) (b d : B) → ◌≡◌ {A = Result (A × B) F} (Ok (a, b)) (Ok (c, d)) → (a ≡ c) × (b ≡ d)
pair_parts {A = A} {B = B} a c b d h =
    let left : A × B = (a, b) in
    let right : A × B = (c, d) in
    let e : left ≡ right = cc in
    (ap (λ (p : A × B). p.0) e, ap (λ (p : A × B). p.1) e)

pub absolute_gave : (source : RowFrom) (f : LinearForm) (s : LinearSystem) (form : LinearForm) (after : LinearSystem) → absolute_of source f s ≡ Ok (form, after) → AbsoluteGave source f s form after
unfolding absolute_of
absolute_gave source f s form after h =
    let p : ℕ = next_number s in
    let (made, made_is, a) = bind_gave (absolute_numbers source f s) _ (form, after) h in
    let (later, later_is, b) = bind_gave (step_placed source.place s made.1) _ (form, after) a in
    let (form_same, after_same) = pair_parts (made.0 ⊙ the p) form later after b in
    let (t, t_is, c) = bind_gave (ranged_at source.place f s.columns) _ made made_is in
    let numbers = past_gave source.place _ made c in
    let (share, share_is, d) = bind_gave (exact_quotient one (whole (pos (common_multiple f)))) _ made numbers in
    let (step, step_is, e) = bind_gave (absolute_step source t p) _ made d in
    let same : ◌≡◌ {A = Rational × Step} (share, step) made = cc in
    record {
      t = t;
      ranged = t_is;
      placed_at = ap (step_placed source.place s) (sym (step_gave source t p step step_is) ∙ ap (λ (m : Rational × Step). m.1) same) ∙ later_is ∙ ap Ok after_same;
      form_is = sym form_same ∙ ap (λ (q : Rational). q ⊙ the p) (sym (ap (λ (m : Rational × Step). m.0) same) ∙ quotient_is one _ share share_is);
    }

-- ---- its columns and rows

whole_short : (q : Rational) → IsTrue (is_whole q) → IsTrue (is_short q)
unfolding is_whole
whole_short q h = short_from_divides q (let e : q.denom ≡ 1 = eqb-true q.denom 1 h in subst (λ (d : ℕ). d ∣ scale) (sym e) (one-dvd scale))

size_whole : (columns : List Column) (f : LinearForm) (t : Ranged) → IsRangedOf columns f t → IsTrue (is_whole (larger (negate t.low) t.high))
size_whole columns f t r = larger_whole (negate t.low) t.high (negated_whole t.low r.low) r.high

one_whole : IsTrue (is_whole one)
unfolding one
one_whole = whole_is_whole (pos 1)

pub size_is : (columns : List Column) (f : LinearForm) (t : Ranged) → IsRangedOf columns f t → IsColumn (size_column t)
size_is columns f t r = record {
  uncrossed = size_from_zero t.low t.high r.ends;
  whole = λ _. record { low = whole_zero; high = size_whole columns f t r };
}

pub binary_is : IsColumn binary
binary_is = record { uncrossed = at_most_zero-one; whole = λ _. record { low = whole_zero; high = one_whole } }

pub binary_short : HasShortSides binary
binary_short = record { low = whole_short zero whole_zero; high = whole_short one one_whole }

six_rows : (P : GivenRow → Type 0) (a b c d e f : GivenRow) → P a → P b → P c → P d → P e → P f → All P (a ∷ b ∷ c ∷ d ∷ e ∷ f ∷ [])
six_rows P a b c d e f pa pb pc pd pe pf =
    All-cons P a (b ∷ c ∷ d ∷ e ∷ f ∷ []) pa
    (All-cons P b (c ∷ d ∷ e ∷ f ∷ []) pb
    (All-cons P c (d ∷ e ∷ f ∷ []) pc (All-cons P d (e ∷ f ∷ []) pd (All-cons P e (f ∷ []) pe (All-cons P f [] pf (All-nil P))))))

pub rows_are : (source : RowFrom) (t : Ranged) (n : ℕ) → IsOver n t.form → All (IsGivenRow (n + 2)) (absolute_with source t (n + 1)).rows
rows_are source t n over =
    let f = over_more n (n + 2) t.form (omega arith) over in
    let p = over_the (n + 2) (n + 1) (omega arith) (omega arith) in
    let s = over_the (n + 2) (n + 1 + 1) (omega arith) (omega arith) in
    let less : (r : Rational) → IsOver (n + 2) (t.form ⊖ r ⊙ the (n + 1 + 1)) = λ r. over_difference (n + 2) t.form (r ⊙ the (n + 1 + 1)) f (over_multiple (n + 2) r (the (n + 1 + 1)) s) in
    let a : Rational = larger zero (times (whole (neg_ℤ (pos 2))) t.low) in
    let b : Rational = larger zero (times (whole (pos 2)) t.high) in
    let down = over_difference (n + 2) (the (n + 1)) t.form p f in
    let up = over_sum (n + 2) (the (n + 1)) t.form p f in
    let g1 : LinearForm = t.form ⊖ minus zero t.low ⊙ the (n + 1 + 1) in
    let g2 : LinearForm = t.form ⊖ plus (minus t.high zero) one ⊙ the (n + 1 + 1) in
    let g3 : LinearForm = the (n + 1) ⊖ t.form in
    let g4 : LinearForm = the (n + 1) ⊕ t.form in
    let g5 : LinearForm = the (n + 1) ⊖ t.form ⊕ a ⊙ the (n + 1 + 1) in
    let g6 : LinearForm = the (n + 1) ⊕ t.form ⊖ b ⊙ the (n + 1 + 1) in
    six_rows (IsGivenRow (n + 2))
    (compared_row source g1 AtLeast t.low) (compared_row source g2 AtMost (minus zero one)) (compared_row source g3 AtLeast zero) (compared_row source g4 AtLeast zero) (compared_row source g5 AtMost a) (compared_row source g6 AtMost zero)
    (row_is (n + 2) source g1 AtLeast t.low (less (minus zero t.low)))
    (row_is (n + 2) source g2 AtMost (minus zero one) (less (plus (minus t.high zero) one)))
    (row_is (n + 2) source g3 AtLeast zero down)
    (row_is (n + 2) source g4 AtLeast zero up)
    (row_is (n + 2) source g5 AtMost a (over_sum (n + 2) g3 (a ⊙ the (n + 1 + 1)) down (over_multiple (n + 2) a (the (n + 1 + 1)) s)))
    (row_is (n + 2) source g6 AtMost zero (over_difference (n + 2) g4 (b ⊙ the (n + 1 + 1)) up (over_multiple (n + 2) b (the (n + 1 + 1)) s)))

-- ---- the value

at_least_zero : (n : ℕ) → IsAtMost zero (whole (pos n))
unfolding zero
at_least_zero n = (whole_at_most (pos 0) (pos n)).1 (omega (arith, ints))

head_is : (v w : Rational) (vs ws : List Rational) → v ∷ vs ≡ w ∷ ws → v ≡ w
head_is v w vs ws h = cc

-- at a point after the step, the first column of the step is the absolute value of T at the point before
size_read : (s : LinearSystem) (source : RowFrom) (t : Ranged) (q : List Rational) → RangesAt t (first_numbers s q) → length (first_numbers s q) ≡ length s.columns → IsSystemPoint (with_step s (absolute_with source t (next_number s))) q
    → assigned q (next_number s) ≡ absolute (number_at (assigned (first_numbers s q)) t.form)
size_read s source t q ranges size point =
    let n : ℕ = length s.columns in
    let v : List Rational = first_numbers s q in
    let a : Rational = larger zero (times (whole (neg_ℤ (pos 2))) t.low) in
    let b : Rational = larger zero (times (whole (pos 2)) t.high) in
    let T : Rational = number_at (assigned v) t.form in
    let step : ℕ → Step = λ m. absolute_made source t (m + 1) (truth_of source t zero (m + 1 + 1)) a b in
    let fits : Fits (step (length v)) v (drop n q) = subst (λ (m : ℕ). Fits (step m) v (drop n q)) (sym size) (fits_after s (step n) q point) in
    let large : IsLarge T a b = (large_low T t.low ranges.above, large_high T t.high ranges.under) in
    let is = absolute_only source t a b v (drop n q) ranges large fits in
    let long : length q ≡ n + 2 = each_has_number (s.columns ++ (step n).columns) q point.columns ∙ length-append s.columns (step n).columns in
    let lt : n < length q = omega arith in
    let first : drop n q ≡ get_or q n zero ∷ drop (suc n) q = drop-cons q n zero lt in
    let same : n + 1 - 1 ≡ n = omega arith in
    ap (λ (k : ℕ). get_or q k zero) same ∙ head_is _ _ _ _ (sym first ∙ is)

pub absolute_makes : (base s : LinearSystem) (number : List Rational → Rational) (source : RowFrom) (f form : LinearForm) (after : LinearSystem) → IsValid s → Extends s base → IsOver (length s.columns) f
    → ((q : List Rational) → IsSystemPoint s q → number_at (assigned q) f ≡ number (first_numbers base q)) → absolute_of source f s ≡ Ok (form, after) → FormMade base s (λ p. absolute (number p)) form after
absolute_makes base s number source f form after is more f_over tells h =
    let gave = absolute_gave source f s form after h in
    let t : Ranged = gave.t in
    let n : ℕ = length s.columns in
    let p : ℕ = next_number s in
    let k : Rational = whole (pos (common_multiple f)) in
    let step : Step = absolute_with source t p in
    let ranged : IsRangedOf s.columns f t = ranged_is source.place f s.columns t is.each_column f_over.columns gave.ranged in
    let after_is : after ≡ with_step s step = placed_is source.place s after step gave.placed_at in
    let valid : IsValid (with_step s step) =
    step_valid source.place s step after is (All-cons IsColumn (size_column t) (binary ∷ []) (size_is s.columns f t ranged) (All-cons IsColumn binary [] binary_is (All-nil IsColumn)))
    (rows_are source t n (record { ordered = ranged.ordered; columns = ranged.over })) gave.placed_at in
    let positive : 0 < common_multiple f = multiple_some f in
    let unit : times (over one k) k ≡ one = over_times one k (whole_different (pos (common_multiple f)) positive) in
    let some : IsAtMost zero k = at_least_zero (common_multiple f) in
    let a : Rational = larger zero (times (whole (neg_ℤ (pos 2))) t.low) in
    let b : Rational = larger zero (times (whole (pos 2)) t.high) in
    let widens : Widens (with_step s step) s =
    step_widens s step is
    (λ v point.
    let size : length v ≡ n = each_has_number s.columns v point.columns in
    let r : RangesAt t v = ranged.ranges v point.columns in
    subst (λ (m : ℕ). FitsOnce (absolute_made source t (m + 1) (truth_of source t zero (m + 1 + 1)) a b) v) size (absolute_fits source t a b v r (large_low _ t.low r.above, large_high _ t.high r.under))) in
    let size_more : length (s.columns ++ step.columns) ≡ n + 2 = length-append s.columns step.columns in
    let value : IsOver (length (s.columns ++ step.columns)) (over one k ⊙ the p) = over_multiple _ (over one k) (the p) (over_the _ p (omega arith) (omega arith)) in
    let says : (q : List Rational) → IsSystemPoint (with_step s step) q → number_at (assigned q) (over one k ⊙ the p) ≡ absolute (number (first_numbers base q)) =
    λ q point.
    let v : List Rational = first_numbers s q in
    let before = point_cut (with_step s step) s q is (step_extends s step) point in
    let read = size_read s source t q (ranged.ranges v before.columns) (each_has_number s.columns v before.columns) point in
    number_multiple (assigned q) (over one k) (the p)
    ∙ ap (times (over one k)) (number_the (assigned q) p ∙ read ∙ ap absolute (ap (number_at (assigned v)) ranged.form ∙ number_multiple (assigned v) k f))
    ∙ share_absolute k (over one k) (number_at (assigned v) f) some unit
    ∙ ap absolute (tells v before ∙ ap number (cut_twice s base q more)) in
    let covered : IsCovered s → IsCovered (with_step s step) =
    λ c. short_further s step c (All-cons HasShortSides (size_column t) (binary ∷ []) (record { low = whole_short zero whole_zero; high = whole_short (larger (negate t.low) t.high) (size_whole s.columns f t ranged) }) (All-cons HasShortSides binary [] binary_short (All-nil HasShortSides))) in
    subst (λ (g : LinearForm). FormMade base s (λ (v : List Rational). absolute (number v)) g after) (sym gave.form_is)
    (subst (λ (m : LinearSystem). FormMade base s (λ (v : List Rational). absolute (number v)) (over one k ⊙ the p) m) (sym after_is)
    (record { valid = valid; widens = widens; ordered = value.ordered; columns = value.columns; tells = says; covered = covered }))
