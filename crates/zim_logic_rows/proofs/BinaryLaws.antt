-- One binary column: the rows of forms, the numbers that it can be, and a step that makes one.
use Rattle.std.proofs.Common.{ℕ, ℤ, suc, ◌≤ℤ◌, ◌⊎◌, pos, ◌≡◌, ◌<◌, ◌≤◌, ◌+◌, ◌-◌, ◌↔◌, inl, inr, IsTrue, IsFalse, true, false, Bool, List, [], ◌∷◌, ◌++◌, length, length-append, get_or, drop, drop-cons, map, Ok, arith, refl, ap, ap₂, sym, ◌∙◌, subst}
use Rattle.std.proofs.lemmas.List.{drop_all, get_or_append_left}
use Rattle.std.proofs.lemmas.Int.{ints}
use Rattle.zim_answer.proofs.BindLemmas.{bind_gave}
use Rattle.zim_fault.specs.declared.faults.Place.{Place}
use Rattle.zim_rational.specs.Rational.{Rational, zero, one, whole, plus, negate, times, IsAtMost, IsBinary}
use Rattle.zim_rational.proofs.Fraction.{fractions, common3}
use Rattle.zim_rational.proofs.Order.{at_most_refl, at_most_zero-one}
use Rattle.zim_rational.proofs.Whole.{one_different, is_whole_whole, whole_at_most, whole_is_whole}
use Rattle.zim_linear.specs.Forms.{Term, LinearForm, ColumnNumbers, AreColumns, sum_at, number_at}
use Rattle.zim_linear.proofs.FormLaws.{sum_at_none, sum_at_more}
use Rattle.zim_rows.specs.declared.rows.Column.{Column}
use Rattle.zim_rows.specs.declared.rows.GivenRow.{GivenRow}
use Rattle.zim_rows.specs.declared.rows.RowFrom.{RowFrom}
use Rattle.zim_rows.specs.declared.rows.Sense.TheVariants as sense
use Rattle.zim_rows.specs.System.{LinearSystem}
use Rattle.zim_rows.specs.Points.{IsSystemPoint, KeepsColumn, KeepColumns, Constraint, KeepConstraints, assigned, given_constraint, first_numbers}
use Rattle.zim_rows.specs.Steps.{Step, with_step, step_placed, binary}
use Rattle.zim_rows.specs.Extending.{IsValid, Widens, Fits, FitsOnce}
use Rattle.zim_rows.proofs.StepLaws.{each_has_number, step_widens, step_extends, fits_after, placed_is}
use Rattle.zim_rows.proofs.CutLaws.{point_cut}
use Rattle.zim_logic_rows.specs.Literals.{number_of}
use Rattle.zim_logic_rows.specs.LogicRows.{compared_row, next_number, with_binary}

-- ---- rows by forms

-- a list of terms over the columns of p comes to the same where more numbers follow
pub sum_joined : (p vs : List Rational) (terms : List Term) → AreColumns (length p) terms → sum_at (assigned (p ++ vs)) terms ≡ sum_at (assigned p) terms
sum_joined p vs [] each = sum_at_none (assigned (p ++ vs)) ∙ sym (sum_at_none (assigned p))
sum_joined p vs (t ∷ ts) each =
    let some : 0 < t.0 = each.0 in
    let few : t.0 ≤ length p = each.1 in
    sum_at_more (assigned (p ++ vs)) t ts
    ∙ ap₂ plus (ap (times t.1) (get_or_append_left p vs zero (t.0 - 1) (omega arith))) (sum_joined p vs ts each.2)
    ∙ sym (sum_at_more (assigned p) t ts)

pub number_joined : (p vs : List Rational) (f : LinearForm) → AreColumns (length p) f.terms → number_at (assigned (p ++ vs)) f ≡ number_at (assigned p) f
unfolding number_at
number_joined p vs f over = ap (λ (n : Rational). plus n f.constant) (sum_joined p vs f.terms over)

row_most : (s k r : Rational) → IsAtMost s (plus r (negate k)) ↔ IsAtMost (plus s k) r
row_most =
    common3 (λ s k r. IsAtMost s (plus r (negate k)) ↔ IsAtMost (plus s k) r) (λ x y u v s t d some. simp fractions (omega arith))

row_least : (s k r : Rational) → IsAtMost (plus r (negate k)) s ↔ IsAtMost r (plus s k)
row_least =
    common3 (λ s k r. IsAtMost (plus r (negate k)) s ↔ IsAtMost r (plus s k)) (λ x y u v s t d some. simp fractions (omega arith))

row_equal : (s k r : Rational) → (s ≡ plus r (negate k)) ↔ (plus s k ≡ r)
row_equal =
    common3 (λ s k r. (s ≡ plus r (negate k)) ↔ (plus s k ≡ r)) (λ x y u v s t d some. simp fractions (omega arith))

pub most_kept : (x : ColumnNumbers) (source : RowFrom) (f : LinearForm) (right : Rational) → KeepConstraints x (given_constraint (compared_row source f sense.AtMost right) ∷ []) ↔ IsAtMost (number_at x f) right
unfolding number_at
most_kept x source f right =
    let r = row_most (sum_at x f.terms) f.constant right in
    (λ h. r.0 h.0, λ h. (r.1 h, tt))

pub least_kept : (x : ColumnNumbers) (source : RowFrom) (f : LinearForm) (right : Rational) → KeepConstraints x (given_constraint (compared_row source f sense.AtLeast right) ∷ []) ↔ IsAtMost right (number_at x f)
unfolding number_at
least_kept x source f right =
    let r = row_least (sum_at x f.terms) f.constant right in
    (λ h. r.0 h.0, λ h. (r.1 h, tt))

pub equal_kept : (x : ColumnNumbers) (source : RowFrom) (f : LinearForm) (right : Rational) → KeepConstraints x (given_constraint (compared_row source f sense.Equal right) ∷ []) ↔ (number_at x f ≡ right)
unfolding number_at
equal_kept x source f right =
    let r = row_equal (sum_at x f.terms) f.constant right in
    (λ h. r.0 h.0, λ h. (r.1 h, tt))

-- rows one after another
pub rows_join : (x : ColumnNumbers) (xs ys : List Constraint) → KeepConstraints x xs → KeepConstraints x ys → KeepConstraints x (xs ++ ys)
rows_join x [] ys h k = k
rows_join x (c ∷ cs) ys h k = (h.0, rows_join x cs ys h.1 k)

pub rows_before : (x : ColumnNumbers) (xs ys : List Constraint) → KeepConstraints x (xs ++ ys) → KeepConstraints x xs
rows_before x [] ys h = tt
rows_before x (c ∷ cs) ys h = (h.0, rows_before x cs ys h.1)

pub rows_after : (x : ColumnNumbers) (xs ys : List Constraint) → KeepConstraints x (xs ++ ys) → KeepConstraints x ys
rows_after x [] ys h = h
rows_after x (c ∷ cs) ys h = rows_after x cs ys h.1

-- ---- a binary column

zero_or_one : (n : ℤ) → pos 0 ≤ℤ n → n ≤ℤ pos 1 → (n ≡ pos 0) ⊎ (n ≡ pos 1)
zero_or_one n low high = grind (arith, ints)

pub binary_from : (w : Rational) → KeepsColumn binary w → IsBinary w
unfolding zero one
binary_from w keeps =
    let e = is_whole_whole w (keeps.whole refl) in
    let low = (whole_at_most (pos 0) w.numer).0 (subst (IsAtMost (whole (pos 0))) e keeps.between.low) in
    let high = (whole_at_most w.numer (pos 1)).0 (subst (λ (q : Rational). IsAtMost q (whole (pos 1))) e keeps.between.high) in
    elim (zero_or_one w.numer low high) [
      | inl h ↦ inl (e ∙ ap whole h)
      | inr h ↦ inr (e ∙ ap whole h)
    ]

pub binary_keeps : (w : Rational) → IsBinary w → KeepsColumn binary w
unfolding zero one
binary_keeps w (inl e) =
    subst (KeepsColumn binary) (sym e) (record {
      between = record { low = at_most_refl zero; high = at_most_zero-one };
      whole = λ _. whole_is_whole (pos 0);
    })
binary_keeps w (inr e) =
    subst (KeepsColumn binary) (sym e) (record {
      between = record { low = at_most_zero-one; high = at_most_refl one };
      whole = λ _. whole_is_whole (pos 1);
    })

pub number_binary : (b : Bool) → IsBinary (number_of b)
unfolding number_of
number_binary true = inr refl
number_binary false = inl refl

pub number_one : (b : Bool) → (number_of b ≡ one) ↔ IsTrue b
unfolding number_of
number_one true = (λ h. refl, λ h. refl)
number_one false = (λ h. absurd (one_different (sym h)), λ h. cc)

pub number_zero : (b : Bool) → (number_of b ≡ zero) ↔ IsFalse b
unfolding number_of
number_zero true = (λ h. absurd (one_different h), λ h. cc)
number_zero false = (λ h. refl, λ h. refl)

-- a binary number is that of a truth value
pub number_from : (w : Rational) → IsBinary w → (b : Bool) × (w ≡ number_of b)
unfolding number_of
number_from w (inl e) = (false, e)
number_from w (inr e) = (true, e)

-- the one binary number that is 1 exactly where b is true
pub number_only : (b : Bool) (w : Rational) → IsBinary w → ((w ≡ one) ↔ IsTrue b) → w ≡ number_of b
unfolding number_of
number_only true w two h = h.1 refl
number_only false w (inl e) h = e
number_only false w (inr e) h = let f = h.0 e in cc

binary_only : (step : Step) (p : List Rational) (b : Bool) (ws : List Rational) → step.columns ≡ binary ∷ []
    → ((w : Rational) → IsBinary w → KeepConstraints (assigned (p ++ w ∷ [])) (map given_constraint step.rows) ↔ ((w ≡ one) ↔ IsTrue b)) → Fits step p ws → ws ≡ number_of b ∷ []
binary_only step p b [] e rows fits = absurd (subst (λ (cs : List Column). KeepColumns cs []) e fits.columns)
binary_only step p b (w ∷ []) e rows fits =
    let kept = subst (λ (cs : List Column). KeepColumns cs (w ∷ [])) e fits.columns in
    let two = binary_from w kept.0 in
    ap (λ (q : Rational). q ∷ []) (number_only b w two ((rows w two).0 fits.rows))
binary_only step p b (w ∷ v ∷ ws) e rows fits =
    absurd ((subst (λ (cs : List Column). KeepColumns cs (w ∷ v ∷ ws)) e fits.columns).1)

-- exactly one number fits one binary column with these rows, if it is to be 1 exactly where b is true
pub binary_fits : (step : Step) (p : List Rational) (b : Bool) → step.columns ≡ binary ∷ []
    → ((w : Rational) → IsBinary w → KeepConstraints (assigned (p ++ w ∷ [])) (map given_constraint step.rows) ↔ ((w ≡ one) ↔ IsTrue b)) → FitsOnce step p
binary_fits step p b e rows = record {
  one = number_of b ∷ [];
  fits = record {
    columns = subst (λ (cs : List Column). KeepColumns cs (number_of b ∷ [])) (sym e) (binary_keeps (number_of b) (number_binary b), tt);
    rows = (rows (number_of b) (number_binary b)).1 (number_one b);
  };
  only = λ ws fits. binary_only step p b ws e rows fits;
}

-- what the new column of a step with one binary column is at a point, and that it fits alone
pub binary_read : (s : LinearSystem) (step : Step) (q : List Rational) → step.columns ≡ binary ∷ [] → IsSystemPoint (with_step s step) q
    → let w : Rational = assigned q (length s.columns + 1) in IsBinary w × Fits step (first_numbers s q) (w ∷ [])
binary_read s step q e point =
    let n : ℕ = length s.columns in
    let size : length q ≡ n + 1 =
    each_has_number (s.columns ++ step.columns) q point.columns ∙ length-append s.columns step.columns ∙ ap (λ (cs : List Column). n + length cs) e in
    let lt : n < length q = omega arith in
    let rest : drop n q ≡ get_or q n zero ∷ [] = drop-cons q n zero lt ∙ ap (λ (vs : List Rational). get_or q n zero ∷ vs) (drop_all (suc n) q (omega arith)) in
    let same : n + 1 - 1 ≡ n = omega arith in
    let fits = subst (Fits step (first_numbers s q)) (rest ∙ ap (λ (k : ℕ). get_or q k zero ∷ []) (sym same)) (fits_after s step q point) in
    (binary_from (assigned q (n + 1)) ((subst (λ (cs : List Column). KeepColumns cs (assigned q (n + 1) ∷ [])) e fits.columns).0), fits)

abbrev pub binary_step : List GivenRow → Step
binary_step rows = record { columns = binary ∷ []; rows = rows }

pub binary_gave : (place : Place) (rows : ℕ → List GivenRow) (s : LinearSystem) (r : ℕ) (after : LinearSystem) → with_binary place rows s ≡ Ok (r, after) → (r ≡ next_number s) × (after ≡ with_step s (binary_step (rows (next_number s))))
unfolding with_binary
binary_gave place rows s r after h =
    let m = bind_gave (step_placed place s (binary_step (rows (next_number s)))) (λ a. Ok (next_number s, a)) (r, after) h in
    let left : ℕ × LinearSystem = (next_number s, m.0) in
    let right : ℕ × LinearSystem = (r, after) in
    let e : left ≡ right = cc in
    (sym (ap (λ (p : ℕ × LinearSystem). p.0) e), sym (ap (λ (p : ℕ × LinearSystem). p.1) e) ∙ placed_is place s m.0 (binary_step (rows (next_number s))) m.1)

-- where the rows say at each point that the column is a truth, it is that truth, and each point extends to exactly one
pub binary_tells : (s : LinearSystem) (rows : List GivenRow) (truth : List Rational → Bool) → IsValid s → ((p : List Rational) (w : Rational) → IsSystemPoint s p → IsBinary w → KeepConstraints (assigned (p ++ w ∷ [])) (map given_constraint rows) ↔ ((w ≡ one) ↔ IsTrue (truth p)))
    → Widens (with_step s (binary_step rows)) s × ((q : List Rational) → IsSystemPoint (with_step s (binary_step rows)) q → assigned q (next_number s) ≡ number_of (truth (first_numbers s q)))
binary_tells s rows truth is says = (
  step_widens s (binary_step rows) is (λ p point. binary_fits (binary_step rows) p (truth p) refl (λ w two. says p w point two)),
  λ q point.
      let before = point_cut (with_step s (binary_step rows)) s q is (step_extends s (binary_step rows)) point in
      let (two, fits) = binary_read s (binary_step rows) q refl point in
      number_only (truth (first_numbers s q)) (assigned q (next_number s)) two ((says (first_numbers s q) (assigned q (next_number s)) before two).0 fits.rows),
)
