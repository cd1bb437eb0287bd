-- An absolute value has exactly one value at each point: that of T without its sign.
use Rattle.std.proofs.Common.{ℕ, pos, neg_ℤ, ◌≡◌, ◌≤◌, ◌+◌, ◌-◌, ◌↔◌, true, IsTrue, inl, inr, List, [], ◌∷◌, ◌++◌, length, length-append, append_assoc, map, Some, arith, refl, ap, ap₂, sym, ◌∙◌, subst, subst₂}
use Rattle.std.proofs.lemmas.List.{map-append, get_or_push, get_or_append_left}
use Rattle.std.proofs.lemmas.Bool.{cases_Bool, cond-true, cond-false}
use Rattle.zim_rational.specs.Rational.{Rational, zero, one, plus, minus, negate, at_most, is_whole, IsAtMost, IsBinary}
use Rattle.zim_rational.specs.Rounding.{absolute, larger}
use Rattle.zim_rational.proofs.Order.{at_most_trans, at_most_turned, negate_at_most, larger_left, larger_right}
use Rattle.zim_rational.proofs.Ring.{negate_zero}
use Rattle.zim_rational.proofs.Whole.{is_whole_whole, whole_negate, whole_is_whole}
use Rattle.zim_rational.proofs.Rows.{absolute_rows}
use Rattle.zim_linear.specs.Forms.{LinearForm, Term, ColumnNumbers, AreColumns, number_at}
use Rattle.zim_rows.specs.System.{column_of}
use Rattle.zim_rows.specs.declared.rows.GivenRow.{GivenRow}
use Rattle.zim_rows.specs.declared.rows.RowFrom.{RowFrom}
use Rattle.zim_rows.specs.declared.rows.Sense.TheVariants.{AtLeast, AtMost}
use Rattle.zim_rows.specs.Points.{KeepsColumn, KeepConstraints, assigned, given_constraint}
use Rattle.zim_rows.specs.Extending.{Fits, FitsOnce}
use Rattle.zim_forms.specs.Algebra.{◌⊕◌, ◌⊖◌, ◌⊙◌, the}
use Rattle.zim_forms.proofs.AlgebraLaws.{number_sum, number_difference, number_multiple, number_the}
use Rattle.zim_logic_rows.specs.declared.Ranged.{Ranged}
use Rattle.zim_logic_rows.specs.LogicRows.{compared_row}
use Rattle.zim_logic_rows.specs.Absolute.{absolute_made}
use Rattle.zim_logic_rows.specs.Literals.{number_of}
use Rattle.zim_logic_rows.proofs.BinaryLaws.{number_joined, most_kept, least_kept, number_one, number_only, number_binary, binary_from, binary_keeps, rows_join, rows_before, rows_after}
use Rattle.zim_logic_rows.proofs.TruthLaws.{RangesAt, truth_of, truth_kept}

-- ---- the four rows

four_kept : (source : RowFrom) (x : ColumnNumbers) (p s t : LinearForm) (a b : Rational) → let P : Rational = number_at x p in let S : Rational = number_at x s in let T : Rational = number_at x t in
    IsBinary S → ((S ≡ one) ↔ IsAtMost zero T) → IsAtMost (negate (plus T T)) a → IsAtMost (plus T T) b
    → KeepConstraints x (map given_constraint (compared_row source (p ⊖ t) AtLeast zero ∷ compared_row source (p ⊕ t) AtLeast zero ∷ compared_row source (p ⊖ t ⊕ a ⊙ s) AtMost a ∷ compared_row source (p ⊕ t ⊖ b ⊙ s) AtMost zero ∷ [])) ↔ (P ≡ absolute T)
four_kept source x p s t a b two sign low high =
    let rows = absolute_rows (number_at x t) (number_at x p) a b (number_at x s) two sign low high in
    let r1 = least_kept x source (p ⊖ t) zero in
    let r2 = least_kept x source (p ⊕ t) zero in
    let r3 = most_kept x source (p ⊖ t ⊕ a ⊙ s) a in
    let r4 = most_kept x source (p ⊕ t ⊖ b ⊙ s) zero in
    let e1 = number_difference x p t in
    let e2 = number_sum x p t in
    let e3 = number_sum x (p ⊖ t) (a ⊙ s) ∙ ap₂ plus (number_difference x p t) (number_multiple x a s) in
    let e4 = number_difference x (p ⊕ t) (b ⊙ s) ∙ ap₂ minus (number_sum x p t) (number_multiple x b s) in (
      λ h. rows.0 (subst (IsAtMost zero) e1 (r1.0 (h.0, tt)), subst (IsAtMost zero) e2 (r2.0 (h.1.0, tt)), subst (λ (n : Rational). IsAtMost n a) e3 (r3.0 (h.1.1.0, tt)), subst (λ (n : Rational). IsAtMost n zero) e4 (r4.0 h.1.1.1)),
      λ h. let k = rows.1 h in ((r1.1 (subst (IsAtMost zero) (sym e1) k.0)).0, ((r2.1 (subst (IsAtMost zero) (sym e2) k.1)).0, ((r3.1 (subst (λ (n : Rational). IsAtMost n a) (sym e3) k.2)).0, r4.1 (subst (λ (n : Rational). IsAtMost n zero) (sym e4) k.3)))),
    )

-- ---- the column of the absolute value

by_sign : (t : Rational) (P : Rational → Type 0) → (IsAtMost zero t → P t) → (IsAtMost t zero → P (negate t)) → P (absolute t)
unfolding absolute
by_sign t P f g =
    elim (cases_Bool (at_most zero t)) [
      | inl h ↦ subst P (sym (cond-true (at_most zero t) t (negate t) h)) (f h)
      | inr h ↦ subst P (sym (cond-false (at_most zero t) t (negate t) h)) (g (at_most_turned zero t h))
    ]

whole_negated : (t : Rational) → IsTrue (is_whole t) → IsTrue (is_whole (negate t))
whole_negated t h =
    subst (λ (n : Rational). IsTrue (is_whole n)) (sym (ap negate (is_whole_whole t h) ∙ whole_negate t.numer)) (whole_is_whole (neg_ℤ t.numer))

absolute_keeps : (t low high : Rational) → IsTrue (is_whole t) → IsAtMost low t → IsAtMost t high → KeepsColumn (column_of true (record { low = Some zero; high = Some (larger (negate low) high) })) (absolute t)
absolute_keeps t low high w above under = record {
  between = record {
    low = by_sign t (IsAtMost zero) (λ h. h) (λ h. subst (λ (n : Rational). IsAtMost n (negate t)) negate_zero (negate_at_most t zero h));
    high =
        by_sign t (λ n. IsAtMost n (larger (negate low) high))
        (λ h. at_most_trans t high (larger (negate low) high) under (larger_right (negate low) high))
        (λ h. at_most_trans (negate t) (negate low) (larger (negate low) high) (negate_at_most low t above) (larger_left (negate low) high));
  };
  whole = λ _. by_sign t (λ n. IsTrue (is_whole n)) (λ _. w) (λ _. whole_negated t w);
}

pub whole_zero : IsTrue (is_whole zero)
unfolding zero
whole_zero = whole_is_whole (pos 0)

-- ---- the step

columns_more : (m n : ℕ) (ts : List Term) → m ≤ n → AreColumns m ts → AreColumns n ts
columns_more m n [] le h = tt
columns_more m n (t ∷ ts) le h = let few : t.0 ≤ m = h.1 in (h.0, omega arith, columns_more m n ts le h.2)

-- the same form with one more number behind the point
ranges_more : (t : Ranged) (v : List Rational) (a : Rational) → RangesAt t v → RangesAt t (v ++ a ∷ [])
ranges_more t v a r =
    let e = sym (number_joined v (a ∷ []) t.form r.over) in
    record {
      over = columns_more (length v) (length (v ++ a ∷ [])) t.form.terms (let g : length (v ++ a ∷ []) ≡ length v + 1 = length-append v (a ∷ []) in omega arith) r.over;
      whole = subst (λ (n : Rational). IsTrue (is_whole n)) e r.whole;
      above = subst (IsAtMost t.low) e r.above;
      under = subst (λ (n : Rational). IsAtMost n t.high) e r.under;
    }

abbrev pub IsLarge : Rational → Rational → Rational → Type 0
IsLarge t a b = IsAtMost (negate (plus t t)) a × IsAtMost (plus t t) b

-- all rows at two numbers behind a point
both_kept : (source : RowFrom) (t : Ranged) (a b : Rational) (v : List Rational) (z s : Rational) → RangesAt t v → IsLarge (number_at (assigned v) t.form) a b → IsBinary s
    → KeepConstraints (assigned (v ++ z ∷ s ∷ [])) (map given_constraint (absolute_made source t (length v + 1) (truth_of source t zero (length v + 1 + 1)) a b).rows) ↔ (((s ≡ one) ↔ IsAtMost zero (number_at (assigned v) t.form)) × (z ≡ absolute (number_at (assigned v) t.form)))
both_kept source t a b v z s r large two =
    let n : ℕ = length v in
    let T : Rational = number_at (assigned v) t.form in
    let u : List Rational = v ++ z ∷ [] in
    let size : length u ≡ n + 1 = length-append v (z ∷ []) in
    let x : ColumnNumbers = assigned (v ++ z ∷ s ∷ []) in
    let join : u ++ s ∷ [] ≡ v ++ z ∷ s ∷ [] = append_assoc v (z ∷ []) (s ∷ []) in
    let sign_rows : List GivenRow = (truth_of source t zero (n + 1 + 1)).rows in
    let same_t : number_at (assigned u) t.form ≡ T = number_joined v (z ∷ []) t.form r.over in
    let sign = truth_kept source t zero (n + 1 + 1) u s (omega arith) whole_zero two (ranges_more t v z r) in
    let sign_at : KeepConstraints x (map given_constraint sign_rows) ↔ ((s ≡ one) ↔ IsAtMost zero T) =
    subst (λ (w : List Rational). KeepConstraints (assigned w) (map given_constraint sign_rows) ↔ ((s ≡ one) ↔ IsAtMost zero T)) join
    (subst (λ (m : Rational). KeepConstraints (assigned (u ++ s ∷ [])) (map given_constraint sign_rows) ↔ ((s ≡ one) ↔ IsAtMost zero m)) same_t sign) in
    let p : LinearForm = the (n + 1) in
    let q : LinearForm = the (n + 1 + 1) in
    let p_is : number_at x p ≡ z =
    number_the x (n + 1) ∙ ap (λ (w : List Rational). assigned w (n + 1)) (sym join) ∙ get_or_append_left u (s ∷ []) zero (n + 1 - 1) (omega arith) ∙ get_or_push v z zero (n + 1 - 1) (omega arith) in
    let q_is : number_at x q ≡ s = number_the x (n + 1 + 1) ∙ ap (λ (w : List Rational). assigned w (n + 1 + 1)) (sym join) ∙ get_or_push u s zero (n + 1 + 1 - 1) (omega arith) in
    let t_is : number_at x t.form ≡ T = number_joined v (z ∷ s ∷ []) t.form r.over in
    let others : List GivenRow = compared_row source (p ⊖ t.form) AtLeast zero ∷ compared_row source (p ⊕ t.form) AtLeast zero ∷ compared_row source (p ⊖ t.form ⊕ a ⊙ q) AtMost a ∷ compared_row source (p ⊕ t.form ⊖ b ⊙ q) AtMost zero ∷ [] in
    let four : ((s ≡ one) ↔ IsAtMost zero T) → KeepConstraints x (map given_constraint others) ↔ (z ≡ absolute T) =
    λ h.
    subst (λ (m : Rational). KeepConstraints x (map given_constraint others) ↔ (m ≡ absolute T)) p_is
    (subst (λ (m : Rational). KeepConstraints x (map given_constraint others) ↔ (number_at x p ≡ absolute m)) t_is
    (four_kept source x p q t.form a b (subst IsBinary (sym q_is) two) (subst₂ (λ (k m : Rational). (k ≡ one) ↔ IsAtMost zero m) (sym q_is) (sym t_is) h) (subst (λ (m : Rational). IsAtMost (negate (plus m m)) a) (sym t_is) large.0) (subst (λ (m : Rational). IsAtMost (plus m m) b) (sym t_is) large.1))) in
    let split : map given_constraint (sign_rows ++ others) ≡ map given_constraint sign_rows ++ map given_constraint others = map-append given_constraint sign_rows others in (
      λ h.
          let all = subst (KeepConstraints x) split h in
          let first = sign_at.0 (rows_before x (map given_constraint sign_rows) (map given_constraint others) all) in
          (first, (four first).0 (rows_after x (map given_constraint sign_rows) (map given_constraint others) all)),
      λ h. subst (KeepConstraints x) (sym split) (rows_join x (map given_constraint sign_rows) (map given_constraint others) (sign_at.1 h.0) ((four h.0).1 h.1)),
    )

-- exactly one pair of numbers fits: the absolute value of T, and whether T is at least 0
pub absolute_only : (source : RowFrom) (t : Ranged) (a b : Rational) (v ws : List Rational) → RangesAt t v → IsLarge (number_at (assigned v) t.form) a b
    → Fits (absolute_made source t (length v + 1) (truth_of source t zero (length v + 1 + 1)) a b) v ws → ws ≡ absolute (number_at (assigned v) t.form) ∷ number_of (at_most zero (number_at (assigned v) t.form)) ∷ []
absolute_only source t a b v [] r large fits = absurd fits.columns
absolute_only source t a b v (z ∷ []) r large fits = absurd fits.columns.1
absolute_only source t a b v (z ∷ s ∷ []) r large fits =
    let two = binary_from s fits.columns.1.0 in
    let kept = (both_kept source t a b v z s r large two).0 fits.rows in
    ap₂ (λ (m k : Rational). m ∷ k ∷ []) kept.1 (number_only (at_most zero (number_at (assigned v) t.form)) s two kept.0)
absolute_only source t a b v (z ∷ s ∷ w ∷ ws) r large fits = absurd fits.columns.1.1

pub absolute_fits : (source : RowFrom) (t : Ranged) (a b : Rational) (v : List Rational) → RangesAt t v → IsLarge (number_at (assigned v) t.form) a b
    → FitsOnce (absolute_made source t (length v + 1) (truth_of source t zero (length v + 1 + 1)) a b) v
absolute_fits source t a b v r large =
    let T : Rational = number_at (assigned v) t.form in
    let S : Rational = number_of (at_most zero T) in
    record {
      one = absolute T ∷ S ∷ [];
      fits = record {
        columns = (absolute_keeps T t.low t.high r.whole r.above r.under, (binary_keeps S (number_binary (at_most zero T)), tt));
        rows = (both_kept source t a b v (absolute T) S r large (number_binary (at_most zero T))).1 (number_one (at_most zero T), refl);
      };
      only = λ ws fits. absolute_only source t a b v ws r large fits;
    }
