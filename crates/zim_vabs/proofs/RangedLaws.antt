-- An integer form is whole at each point of the system, and lies between its ends, which are whole.
use Rattle.std.proofs.Common.{ℕ, suc, zero, pos, ◌≡◌, ◌<◌, ◌≤◌, ◌-◌, ◌&&◌, Bool, true, false, cond, nat_le, nat_lt, nat_eq, subst₂, IsTrue, IfSome, List, [], ◌∷◌, length, map, get_or, Option, Some, None, Result, Ok, Err, All, arith, refl, ap, ap₂, sym, ◌∙◌, subst}
use Rattle.std.specs.Option.{is_some}
use Rattle.std.proofs.lemmas.List.{get_or-map}
use Rattle.zim_answer.proofs.BindLemmas.{bind_gave}
use Rattle.zim_fault.specs.declared.faults.Fault.{Fault}
use Rattle.zim_fault.specs.declared.faults.Place.{Place}
use Rattle.zim_fault.specs.declared.kinds.Kind.{Kind}
use Rattle.zim_fault.specs.declared.kinds.Kind.TheVariants.{CondReal, CondUnbounded}
use Rattle.zim_fraction.specs.Limit.{limit}
use Rattle.zim_fraction.specs.declared.fault.Past.{Past}
use Rattle.zim_rational.specs.Rational as rational
use Rattle.zim_rational.specs.Rational.{Rational, whole, plus, times, same, IsAtMost}
use Rattle.zim_rational.proofs.Order.{at_most_refl, plus_at_most}
use Rattle.zim_rational.proofs.Ring.{times_comm}
use Rattle.zim_rational.proofs.Whole.{whole_plus, is_whole_whole, whole_is_whole}
use Rattle.zim_linear.specs.Forms.{Term, LinearForm, AreTerms, AreColumns, sum_at, number_at}
use Rattle.zim_linear.specs.Ends.{unbounded, sides_at, IsBetween, AreBetween, IsUncrossed, AreUncrossed, least_answer, greatest_answer}
use Rattle.zim_linear.specs.Integers.{common_multiple, HasWholeNumbers}
use Rattle.zim_linear.specs.Multiples.{IsMultipleOf}
use Rattle.zim_linear.specs.declared.sides.Sides.{Sides}
use Rattle.zim_linear.proofs.RangeLaws.{ends_kept}
use Rattle.zim_linear.proofs.WholeEndLaws.{IsWholeNumber, AreWholeColumns, HaveWholeSides, HaveBothSides, number_whole_at, least_whole, greatest_whole, least_finite, greatest_finite, multiple_is_whole, ends_in_order}
use Rattle.zim_forms.specs.Exact.{◌⊞◌}
use Rattle.zim_forms.specs.Algebra.{◌⊙◌, with_term, with_terms, form_times}
use Rattle.zim_forms.specs.FormEnds.{both_ends}
use Rattle.zim_forms.proofs.AlgebraLaws.{pick, number_multiple}
use Rattle.zim_forms.proofs.MultipleLaws.{times_is}
use Rattle.zim_forms.proofs.OrderLaws.{with_terms_ordered, with_terms_over}
use Rattle.zim_rows.specs.declared.rows.Column.{Column}
use Rattle.zim_rows.specs.System.{IsColumn, column_of, column_at}
use Rattle.zim_rows.specs.Points.{KeepsColumn, KeepColumns, assigned}
use Rattle.zim_rows.proofs.StepLaws.{each_has_number}
use Rattle.zim_logic_rows.specs.declared.Ranged.{Ranged}
use Rattle.zim_logic_rows.specs.LogicRows.{past_at}
use Rattle.zim_logic_rows.proofs.TruthLaws.{RangesAt, exact_plus}
use Rattle.zim_vabs.specs.IntegerForms.{column_offence, first_kind, offence, whole_multiple, finite_end, with_ends, ranged, unless_offends, ranged_at}

-- ---- columns that serve

pub record Serves (column : Column) : Type 0 where
  pub integer : IsTrue column.integer
  pub low : (l : Rational) × (column.sides.low ≡ Some l)
  pub high : (h : Rational) × (column.sides.high ≡ Some h)

by_parts : (i : Bool) (low high : Option Rational) → cond i (cond (is_some low && is_some high) None (Some CondUnbounded)) (Some CondReal) ≡ None → IsTrue i × ((l : Rational) × (low ≡ Some l)) × ((h : Rational) × (high ≡ Some h))
by_parts true (Some l) (Some h) e = (refl, (l, refl), (h, refl))
by_parts true (Some l) None e = cc
by_parts true None high e = cc
by_parts false low high e = cc

serves_from : (column : Column) → column_offence column ≡ None → Serves column
serves_from column e =
    let parts = by_parts column.integer column.sides.low column.sides.high e in
    record { integer = parts.0; low = parts.1; high = parts.2 }

none_first : (a b : Option Kind) → first_kind a b ≡ None → (a ≡ None) × (b ≡ None)
none_first None b e = (refl, e)
none_first (Some k) b e = cc

offence_none : (columns : List Column) (t : Term) (ts : List Term) → offence columns (t ∷ ts) ≡ None → Serves (column_at columns t.0) × (offence columns ts ≡ None)
unfolding offence
offence_none columns t ts e =
    let both = none_first (column_offence (column_at columns t.0)) (offence columns ts) e in
    (serves_from (column_at columns t.0) both.0, both.1)

-- ---- a column at a point

no_column : Column
no_column = column_of false unbounded

kept_index : (cs : List Column) (vs : List Rational) (i : ℕ) → KeepColumns cs vs → i < length cs → KeepsColumn (get_or cs i (column_of false unbounded)) (get_or vs i rational.zero)
kept_index [] vs i h lt = absurd (omega arith)
kept_index (c ∷ cs) [] i h lt = absurd h
kept_index (c ∷ cs) (v ∷ vs) zero h lt = h.0
kept_index (c ∷ cs) (v ∷ vs) (suc i) h lt = kept_index cs vs i h.1 (omega arith)

kept_at : (cs : List Column) (vs : List Rational) (j : ℕ) → KeepColumns cs vs → 0 < j → j ≤ length cs → KeepsColumn (column_at cs j) (assigned vs j)
kept_at cs vs j h some few = kept_index cs vs (j - 1) h (omega arith)

sides_same : (cs : List Column) (j : ℕ) → 0 < j → j ≤ length cs → sides_at (map (λ (c : Column). c.sides) cs) j ≡ (column_at cs j).sides
sides_same cs j some few = get_or-map (λ (c : Column). c.sides) cs (j - 1) (column_of false unbounded) unbounded (omega arith)

are_between : (cs : List Column) (vs : List Rational) (ts : List Term) → KeepColumns cs vs → AreColumns (length cs) ts → AreBetween (assigned vs) (map (λ (c : Column). c.sides) cs) ts
are_between cs vs [] h over = tt
are_between cs vs (t ∷ ts) h over = (
  subst (λ (s : Sides). IsBetween s (assigned vs t.0)) (sym (sides_same cs t.0 over.0 over.1)) (kept_at cs vs t.0 h over.0 over.1).between,
  are_between cs vs ts h over.2,
)

-- what the columns of the terms are, each of which serves
abbrev pub AllServe : List Column → List Term → Type 0
AllServe cs [] = Unit {0}
AllServe cs (t ∷ ts) = Serves (column_at cs t.0) × AllServe cs ts

pub all_serve : (cs : List Column) (ts : List Term) → offence cs ts ≡ None → AllServe cs ts
all_serve cs [] e = tt
all_serve cs (t ∷ ts) e = let both = offence_none cs t ts e in (both.0, all_serve cs ts both.1)

whole_columns : (cs : List Column) (vs : List Rational) (ts : List Term) → KeepColumns cs vs → AreColumns (length cs) ts → AllServe cs ts → AreWholeColumns (assigned vs) ts
whole_columns cs vs [] h over serve = tt
whole_columns cs vs (t ∷ ts) h over serve =
    ((kept_at cs vs t.0 h over.0 over.1).whole serve.0.integer, whole_columns cs vs ts h over.2 serve.1)

both_sides : (cs : List Column) (ts : List Term) → AreColumns (length cs) ts → AllServe cs ts → HaveBothSides (map (λ (c : Column). c.sides) cs) ts
both_sides cs [] over serve = tt
both_sides cs (t ∷ ts) over serve =
    let e = sides_same cs t.0 over.0 over.1 in (
      (
        (serve.0.low.0, ap (λ (s : Sides). s.low) e ∙ serve.0.low.1),
        (serve.0.high.0, ap (λ (s : Sides). s.high) e ∙ serve.0.high.1),
      ),
      both_sides cs ts over.2 serve.1,
    )

column_is : (cs : List Column) (j : ℕ) → All IsColumn cs → 0 < j → j ≤ length cs → IsColumn (column_at cs j)
column_is cs j each some few = each (j - 1) (column_of false unbounded) (omega arith)

whole_sides : (cs : List Column) (ts : List Term) → All IsColumn cs → AreColumns (length cs) ts → AllServe cs ts → HaveWholeSides (map (λ (c : Column). c.sides) cs) ts
whole_sides cs [] each over serve = tt
whole_sides cs (t ∷ ts) each over serve =
    let e = sym (sides_same cs t.0 over.0 over.1) in
    let sides = (column_is cs t.0 each over.0 over.1).whole serve.0.integer in (
      subst (λ (s : Sides). IfSome s.low IsWholeNumber × IfSome s.high IsWholeNumber) e (sides.low, sides.high),
      whole_sides cs ts each over.2 serve.1,
    )

uncrossed : (cs : List Column) (ts : List Term) → All IsColumn cs → AreColumns (length cs) ts → AreUncrossed (map (λ (c : Column). c.sides) cs) ts
uncrossed cs [] each over = tt
uncrossed cs (t ∷ ts) each over = (
  subst IsUncrossed (sym (sides_same cs t.0 over.0 over.1)) (column_is cs t.0 each over.0 over.1).uncrossed,
  uncrossed cs ts each over.2,
)

-- ---- the multiple

serve_term : (cs : List Column) (t : Term) (ts : List Term) → Serves (column_at cs t.0) → AllServe cs ts → AllServe cs (with_term t ts)
unfolding with_term
serve_term cs t [] s all = pick (AllServe cs) (same t.1 rational.zero) [] (t ∷ []) (λ _. tt) (λ _. (s, tt))
serve_term cs t (u ∷ us) s all =
    pick (AllServe cs) (nat_lt u.0 t.0) (u ∷ with_term t us) _ (λ _. (all.0, serve_term cs t us s all.1))
    (λ _.
    pick (AllServe cs) (nat_eq u.0 t.0) _ _
    (λ _. pick (AllServe cs) (same (plus u.1 t.1) rational.zero) us ((u.0, plus u.1 t.1) ∷ us) (λ _. all.1) (λ _. (all.0, all.1)))
    (λ _. pick (AllServe cs) (same t.1 rational.zero) (u ∷ us) (t ∷ u ∷ us) (λ _. all) (λ _. (s, all))))

serve_terms : (cs : List Column) (ts more : List Term) → AllServe cs ts → AllServe cs more → AllServe cs (with_terms ts more)
unfolding with_terms
serve_terms cs ts [] all others = all
serve_terms cs ts (t ∷ more) all others = serve_terms cs (with_term t ts) more (serve_term cs t ts others.0 all) others.1

serve_scaled : (cs : List Column) (q : Rational) (ts : List Term) → AllServe cs ts → AllServe cs (map (λ (t : Term). (t.0, times t.1 q)) ts)
serve_scaled cs q [] all = tt
serve_scaled cs q (t ∷ ts) all = (all.0, serve_scaled cs q ts all.1)

columns_scaled : (n : ℕ) (q : Rational) (ts : List Term) → AreColumns n ts → AreColumns n (map (λ (t : Term). (t.0, times t.1 q)) ts)
columns_scaled n q [] h = tt
columns_scaled n q (t ∷ ts) h = (h.0, h.1, columns_scaled n q ts h.2)

pub scaled_over : (n : ℕ) (q : Rational) (f : LinearForm) → AreColumns n f.terms → AreColumns n (q ⊙ f).terms
scaled_over n q f h = with_terms_over n [] (map (λ (t : Term). (t.0, times t.1 q)) f.terms) tt (columns_scaled n q f.terms h)

pub scaled_ordered : (q : Rational) (f : LinearForm) → AreTerms (q ⊙ f).terms
scaled_ordered q f = with_terms_ordered [] (map (λ (t : Term). (t.0, times t.1 q)) f.terms) tt

is_multiple : (q : Rational) (f : LinearForm) → IsMultipleOf f q (q ⊙ f)
is_multiple q f = record {
  number = λ x. number_multiple x q f ∙ times_comm q (number_at x f);
  terms = scaled_ordered q f;
  columns = λ n h. scaled_over n q f h;
}

-- ---- what was answered

unless_gave : {A : Type 0} (place : Place) (o : Option Kind) (answer : Result A Fault) (v : A) → unless_offends place o answer ≡ Ok v → (o ≡ None) × (answer ≡ Ok v)
unless_gave place None answer v h = (refl, h)
unless_gave place (Some kind) answer v h = cc

pub past_gave : {A : Type 0} (place : Place) (r : Result A Past) (v : A) → past_at place r ≡ Ok v → r ≡ Ok v
past_gave place (Ok w) v h = let e : w ≡ v = cc in ap Ok e
past_gave place (Err p) v h = cc

multiple_by : (b : Bool) (r : Result LinearForm Past) (m : LinearForm) (past : Past) → cond b r (Err past) ≡ Ok m → r ≡ Ok m
multiple_by true r m past h = h
multiple_by false r m past h = cc

multiple_gave : (f m : LinearForm) → whole_multiple f ≡ Ok m → m ≡ whole (pos (common_multiple f)) ⊙ f
unfolding whole_multiple
multiple_gave f m h =
    times_is f (whole (pos (common_multiple f))) m (multiple_by (nat_le (common_multiple f) limit) (form_times f (whole (pos (common_multiple f)))) m (record {}) h)

both_gave : (sides : List Sides) (ts : List Term) (ends : Sides) → both_ends sides ts ≡ Ok ends → (least_answer sides ts ≡ Ok ends.low) × (greatest_answer sides ts ≡ Ok ends.high)
both_gave sides ts ends h =
    let a = bind_gave (least_answer sides ts) _ ends h in
    let b = bind_gave (greatest_answer sides ts) _ ends a.2 in
    let e : ◌≡◌ {A = Sides} (record { low = a.0; high = b.0 }) ends = cc in
    (a.1 ∙ ap Ok (ap (λ (s : Sides). s.low) e), b.1 ∙ ap Ok (ap (λ (s : Sides). s.high) e))

-- an end that is there, and the constant added to it
end_gave : (o : Option Rational) (c r : Rational) → (o ≡ None → ⊥) → (finite_end o ⊞ Ok c) ≡ Ok r → (l : Rational) × (o ≡ Some l) × (r ≡ plus l c)
end_gave (Some l) c r some h = (l, refl, exact_plus l c r h)
end_gave None c r some h = absurd (some refl)

with_gave : (t : LinearForm) (ends : Sides) (made : Ranged) → with_ends t ends ≡ Ok made → (made.form ≡ t) × ((finite_end ends.low ⊞ Ok t.constant) ≡ Ok made.low) × ((finite_end ends.high ⊞ Ok t.constant) ≡ Ok made.high)
with_gave t ends made h =
    let a = bind_gave (finite_end ends.low ⊞ Ok t.constant) _ made h in
    let b = bind_gave (finite_end ends.high ⊞ Ok t.constant) _ made a.2 in
    let e : ◌≡◌ {A = Ranged} (record { form = t; low = a.0; high = b.0 }) made = cc in
    (sym (ap (λ (m : Ranged). m.form) e), a.1 ∙ ap Ok (ap (λ (m : Ranged). m.low) e), b.1 ∙ ap Ok (ap (λ (m : Ranged). m.high) e))

whole_sum : (a b : Rational) → IsWholeNumber a → IsWholeNumber b → IsWholeNumber (plus a b)
whole_sum a b p q =
    subst IsWholeNumber (sym (ap₂ plus (is_whole_whole a p) (is_whole_whole b q) ∙ whole_plus a.numer b.numer)) (whole_is_whole _)

-- ---- the integer form

pub record IsRangedOf (columns : List Column) (f : LinearForm) (t : Ranged) : Type 0 where
  pub form : t.form ≡ whole (pos (common_multiple f)) ⊙ f
  pub ordered : AreTerms t.form.terms
  pub over : AreColumns (length columns) t.form.terms
  pub ends : IsAtMost t.low t.high
  pub low : IsWholeNumber t.low
  pub high : IsWholeNumber t.high
  pub ranges : (p : List Rational) → KeepColumns columns p → RangesAt t p

pub ranged_is : (place : Place) (f : LinearForm) (columns : List Column) (t : Ranged) → All IsColumn columns → AreColumns (length columns) f.terms → ranged_at place f columns ≡ Ok t → IsRangedOf columns f t
unfolding ranged_at ranged number_at
ranged_is place f columns t each over h =
    let sides : List Sides = map (λ (c : Column). c.sides) columns in
    let k : Rational = whole (pos (common_multiple f)) in
    let (none, kept) = unless_gave place (offence columns f.terms) _ t h in
    let answer = past_gave place _ t kept in
    let (m, m_is, after) = bind_gave (whole_multiple f) _ t answer in
    let (ends, ends_are, last) = bind_gave (both_ends sides m.terms) _ t after in
    let (form_is, low_is, high_is) = with_gave m ends t last in
    let multiple : m ≡ k ⊙ f = multiple_gave f m m_is in
    let (least, greatest) = both_gave sides m.terms ends ends_are in
    let m_over : AreColumns (length columns) m.terms = subst (λ (g : LinearForm). AreColumns (length columns) g.terms) (sym multiple) (scaled_over (length columns) k f over) in
    let serve : AllServe columns m.terms = subst (λ (g : LinearForm). AllServe columns g.terms) (sym multiple) (serve_terms columns [] (map (λ (u : Term). (u.0, times u.1 k)) f.terms) tt (serve_scaled columns k f.terms (all_serve columns f.terms none))) in
    let numbers : HasWholeNumbers m = multiple_is_whole f m (subst (IsMultipleOf f k) (sym multiple) (is_multiple k f)) in
    let have = both_sides columns m.terms m_over serve in
    let wholes = whole_sides columns m.terms each m_over serve in
    let (l, l_is, low_sum) = end_gave ends.low m.constant t.low (λ e. least_finite sides m.terms have (least ∙ ap Ok e)) low_is in
    let (u, u_is, high_sum) = end_gave ends.high m.constant t.high (λ e. greatest_finite sides m.terms have (greatest ∙ ap Ok e)) high_is in
    record {
      form = form_is ∙ multiple;
      ordered = subst (λ (g : LinearForm). AreTerms g.terms) (sym (form_is ∙ multiple)) (scaled_ordered k f);
      over = subst (λ (g : LinearForm). AreColumns (length columns) g.terms) (sym form_is) m_over;
      ends = subst₂ IsAtMost (sym low_sum) (sym high_sum) (plus_at_most _ _ _ _ (ends_in_order sides m.terms l u (subst (λ (g : LinearForm). AreTerms g.terms) (sym multiple) (scaled_ordered k f)) (uncrossed columns m.terms each m_over) (least ∙ ap Ok l_is) (greatest ∙ ap Ok u_is)) (at_most_refl m.constant));
      low = subst IsWholeNumber (sym low_sum) (whole_sum l m.constant (least_whole sides m.terms l numbers.coefficients wholes (least ∙ ap Ok l_is)) numbers.constant);
      high = subst IsWholeNumber (sym high_sum) (whole_sum u m.constant (greatest_whole sides m.terms u numbers.coefficients wholes (greatest ∙ ap Ok u_is)) numbers.constant);
      ranges =
          λ p keep.
          let size : length p ≡ length columns = each_has_number columns p keep in
          let between : IsBetween ends (sum_at (assigned p) m.terms) = ends_kept sides m.terms ends least greatest (assigned p) (are_between columns p m.terms keep m_over) in
          let low : IsAtMost l (sum_at (assigned p) m.terms) = subst (λ (o : Option Rational). IfSome o (λ (q : Rational). IsAtMost q (sum_at (assigned p) m.terms))) l_is between.low in
          let high : IsAtMost (sum_at (assigned p) m.terms) u = subst (λ (o : Option Rational). IfSome o (λ (q : Rational). IsAtMost (sum_at (assigned p) m.terms) q)) u_is between.high in
          record {
            over = subst (λ (n : ℕ). AreColumns n t.form.terms) (sym size) (subst (λ (g : LinearForm). AreColumns (length columns) g.terms) (sym form_is) m_over);
            whole = subst (λ (g : LinearForm). IsWholeNumber (number_at (assigned p) g)) (sym form_is) (number_whole_at (assigned p) m (whole_columns columns p m.terms keep m_over serve) numbers);
            above = subst₂ IsAtMost (sym low_sum) (ap (number_at (assigned p)) (sym form_is)) (plus_at_most _ _ _ _ low (at_most_refl m.constant));
            under = subst₂ IsAtMost (ap (number_at (assigned p)) (sym form_is)) (sym high_sum) (plus_at_most _ _ _ _ high (at_most_refl m.constant));
          };
    }
