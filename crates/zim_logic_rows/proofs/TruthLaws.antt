-- A truth column has exactly one value at each point, and it is 1 exactly where T is at least c.
use Rattle.std.proofs.Common.{ℕ, ◌≡◌, ◌+◌, ◌-◌, ◌↔◌, IsTrue, List, [], ◌∷◌, ◌++◌, length, map, Ok, Err, arith, refl, ap, ap₂, sym, ◌∙◌, subst, cond, Bool, true, false}
use Rattle.std.proofs.lemmas.List.{get_or_push}
use Rattle.zim_fraction.specs.Limit.{is_sum_within}
use Rattle.zim_fraction.specs.Answers.{sum_answer, difference_answer}
use Rattle.zim_fraction.specs.declared.fault.Past.{Past}
use Rattle.zim_rational.specs.Rational.{Rational, zero, one, plus, minus, negate, times, at_most, is_whole, IsAtMost, IsBinary}
use Rattle.zim_rational.proofs.Rows.{truth_rows}
use Rattle.zim_linear.specs.Forms.{LinearForm, ColumnNumbers, AreColumns, number_at}
use Rattle.zim_rows.specs.declared.rows.RowFrom.{RowFrom}
use Rattle.zim_rows.specs.System.{LinearSystem}
use Rattle.zim_rows.specs.Points.{IsSystemPoint, KeepConstraints, assigned, given_constraint, first_numbers}
use Rattle.zim_rows.specs.Steps.{Step, with_step}
use Rattle.zim_rows.specs.Extending.{IsValid, Widens}
use Rattle.zim_rows.proofs.StepLaws.{each_has_number}
use Rattle.zim_forms.specs.Exact.{Exact, exact_sum, exact_difference, ◌⊞◌, ◌⊟◌, of_four}
use Rattle.zim_forms.specs.Algebra.{◌⊖◌, ◌⊙◌, the}
use Rattle.zim_forms.proofs.AlgebraLaws.{number_difference, number_multiple, number_the}
use Rattle.zim_logic_rows.specs.declared.Ranged.{Ranged}
use Rattle.zim_logic_rows.specs.LogicRows.{next_number}
use Rattle.zim_logic_rows.specs.Truth.{truth_step, truth_made}
use Rattle.zim_logic_rows.specs.Literals.{number_of}
use Rattle.zim_logic_rows.proofs.BinaryLaws.{number_joined, most_kept, least_kept, binary_tells}

of_four_gave : {A : Type 0} (a b c d : Exact) (make : Rational → Rational → Rational → Rational → A) (y : A) → of_four a b c d make ≡ Ok y → (p q r s : Rational) × (a ≡ Ok p) × (b ≡ Ok q) × (c ≡ Ok r) × (d ≡ Ok s) × (y ≡ make p q r s)
of_four_gave (Ok p) (Ok q) (Ok r) (Ok s) make y h = (p, q, r, s, refl, refl, refl, refl, cc)
of_four_gave (Err e) b c d make y h = cc
of_four_gave (Ok p) (Err e) c d make y h = cc
of_four_gave (Ok p) (Ok q) (Err e) d make y h = cc
of_four_gave (Ok p) (Ok q) (Ok r) (Err e) make y h = cc

-- ---- exact numbers

kept_by_test : (b : Bool) (q r : Rational) (past : Past) → cond b (Ok q) (Err past) ≡ Ok r → r ≡ q
kept_by_test true q r past h = cc
kept_by_test false q r past h = cc

pub exact_minus : (a b r : Rational) → (Ok a ⊟ Ok b) ≡ Ok r → r ≡ minus a b
unfolding exact_difference difference_answer
exact_minus a b r h = kept_by_test (is_sum_within a (negate b)) (minus a b) r (record {}) h

pub exact_plus : (a b r : Rational) → (Ok a ⊞ Ok b) ≡ Ok r → r ≡ plus a b
unfolding exact_sum sum_answer
exact_plus a b r h = kept_by_test (is_sum_within a b) (plus a b) r (record {}) h

pub plus_gave : (a : Exact) (b r : Rational) → (a ⊞ Ok b) ≡ Ok r → (q : Rational) × (a ≡ Ok q) × (r ≡ plus q b)
unfolding exact_sum
plus_gave (Ok q) b r h = (q, refl, exact_plus q b r h)
plus_gave (Err e) b r h = cc

pub minus_gave : (a : Exact) (b r : Rational) → (a ⊟ Ok b) ≡ Ok r → (q : Rational) × (a ≡ Ok q) × (r ≡ minus q b)
unfolding exact_difference
minus_gave (Ok q) b r h = (q, refl, exact_minus q b r h)
minus_gave (Err e) b r h = cc

-- the step with its numbers
abbrev pub truth_of : RowFrom → Ranged → Rational → ℕ → Step
truth_of source t c b = truth_made source t.form b (minus c t.low) t.low (plus (minus t.high c) one) (minus c one)

pub truth_gave : (source : RowFrom) (t : Ranged) (c : Rational) (b : ℕ) (step : Step) → truth_step source t c b ≡ Ok step → step ≡ truth_of source t c b
unfolding truth_step
truth_gave source t c b step h =
    let (rise, first, fall, second, ra, fa, la, sa, is) = of_four_gave (Ok c ⊟ Ok t.low) (Ok t.low ⊟ Ok t.form.constant) (Ok t.high ⊟ Ok c ⊞ Ok one) (Ok c ⊟ Ok one ⊟ Ok t.form.constant) (λ rise first fall second. truth_made source t.form b rise t.low fall (minus c one)) step h in
    let e = plus_gave (Ok t.high ⊟ Ok c) one fall la in
    is
    ∙ ap₂ (λ (r f : Rational). truth_made source t.form b r t.low f (minus c one)) (exact_minus c t.low rise ra) (e.2 ∙ ap (λ (q : Rational). plus q one) (exact_minus t.high c e.0 e.1))

-- a form that is whole at a point, and lies between its ends
pub record RangesAt (t : Ranged) (p : List Rational) : Type 0 where
  pub over : AreColumns (length p) t.form.terms
  pub whole : IsTrue (is_whole (number_at (assigned p) t.form))
  pub above : IsAtMost t.low (number_at (assigned p) t.form)
  pub under : IsAtMost (number_at (assigned p) t.form) t.high

-- a form less a multiple of a new column
number_less : (p : List Rational) (w r : Rational) (b : ℕ) (t : LinearForm) → b ≡ length p + 1 → AreColumns (length p) t.terms → number_at (assigned (p ++ w ∷ [])) (t ⊖ r ⊙ the b) ≡ minus (number_at (assigned p) t) (times r w)
number_less p w r b t e over =
    let x : ColumnNumbers = assigned (p ++ w ∷ []) in
    let there : x b ≡ w = get_or_push p w zero (b - 1) (omega arith) in
    number_difference x t (r ⊙ the b) ∙ ap₂ minus (number_joined p (w ∷ []) t over) (number_multiple x r (the b) ∙ ap (times r) (number_the x b ∙ there))

-- the step's rows at a point and a binary number w: w is 1 exactly where T is at least c
pub truth_kept : (source : RowFrom) (t : Ranged) (c : Rational) (b : ℕ) (p : List Rational) (w : Rational) → b ≡ length p + 1 → IsTrue (is_whole c) → IsBinary w → RangesAt t p
    → KeepConstraints (assigned (p ++ w ∷ [])) (map given_constraint (truth_of source t c b).rows) ↔ ((w ≡ one) ↔ IsAtMost c (number_at (assigned p) t.form))
truth_kept source t c b p w e f two ranges =
    let x : ColumnNumbers = assigned (p ++ w ∷ []) in
    let rise : Rational = minus c t.low in
    let fall : Rational = plus (minus t.high c) one in
    let rows = truth_rows (number_at (assigned p) t.form) c t.low t.high w ranges.whole f two ranges.above ranges.under in
    let one_is = number_less p w rise b t.form e ranges.over in
    let two_is = number_less p w fall b t.form e ranges.over in
    let first = least_kept x source (t.form ⊖ rise ⊙ the b) t.low in
    let second = most_kept x source (t.form ⊖ fall ⊙ the b) (minus c one) in (
      λ h. rows.0 (subst (IsAtMost t.low) one_is (first.0 (h.0, tt)), subst (λ (q : Rational). IsAtMost q (minus c one)) two_is (second.0 h.1)),
      λ h. let kept = rows.1 h in ((first.1 (subst (IsAtMost t.low) (sym one_is) kept.0)).0, second.1 (subst (λ (q : Rational). IsAtMost q (minus c one)) (sym two_is) kept.1)),
    )

-- `T >= c`: the step widens the system, and at each point after it the column is 1 exactly where T is at least c
pub truth_tells : (s : LinearSystem) (source : RowFrom) (t : Ranged) (c : Rational) → IsValid s → IsTrue (is_whole c) → ((p : List Rational) → IsSystemPoint s p → RangesAt t p)
    → let step : Step = truth_of source t c (next_number s) in Widens (with_step s step) s × ((q : List Rational) → IsSystemPoint (with_step s step) q → assigned q (next_number s) ≡ number_of (at_most c (number_at (assigned (first_numbers s q)) t.form)))
truth_tells s source t c is f ranges =
    binary_tells s (truth_of source t c (next_number s)).rows (λ p. at_most c (number_at (assigned p) t.form)) is
    (λ p w point two. truth_kept source t c (next_number s) p w (ap (λ (n : ℕ). n + 1) (sym (each_has_number s.columns p point.columns))) f two (ranges p point))
