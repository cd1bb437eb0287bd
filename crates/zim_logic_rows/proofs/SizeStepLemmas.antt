-- What the call for an absolute value makes is its step.
use Rattle.std.proofs.Common.{ℕ, ◌≡◌, ◌<◌, ◌+◌, pos, neg_ℤ, cond, Bool, true, false, List, [], ◌∷◌, ◌++◌, map, Result, Ok, Err, ap, ap₂, refl, subst, sym, ◌∙◌}
use Rattle.zim_answer.specs.Answer.{◌>>=◌}
use Rattle.zim_answer.specs.Gives.{Stops}
use Rattle.zim_answer.proofs.GivesLemmas.{Stops-bind}
use Rattle.zim_rational.specs.Rational.{Rational, zero, one, whole, plus, negate, times}
use Rattle.zim_rational.specs.Rounding.{larger}
use Rattle.zim_rational.proofs.Ring.{plus_zero, zero_plus, negate_negate, negate_zero, zero_times}
use Rattle.zim_fraction.specs.Limit.{is_sum_within}
use Rattle.zim_fraction.specs.Answers.{sum_answer, product_answer}
use Rattle.zim_fraction.specs.declared.fault.Past.{Past}
use Rattle.zim_linear.specs.Forms.{LinearForm, AreTerms}
use Rattle.zim_linear.specs.Sums.{negated_form}
use Rattle.zim_linear.specs.declared.faults.LinFault.{LinFault}
use Rattle.zim_forms.specs.Exact.{Exact}
use Rattle.zim_forms.specs.Algebra.{◌⊕◌, ◌⊖◌, ◌⊙◌, the, form_cause}
use Rattle.zim_rows.specs.declared.rows.Column.{Column}
use Rattle.zim_rows.specs.declared.rows.GivenRow.{GivenRow}
use Rattle.zim_rows.specs.declared.rows.RowFrom.{RowFrom}
use Rattle.zim_rows.specs.declared.rows.Sense.TheVariants.{AtLeast, AtMost}
use Rattle.zim_rows.specs.declared.steps.NewRow.{NewRow}
use Rattle.zim_logic_rows.specs.Steps.{terms_row}
use Rattle.zim_rows.specs.Steps.{Step, binary, given_row, step_of}
use Rattle.zim_logic_rows.specs.declared.Ranged.{Ranged}
use Rattle.zim_logic_rows.specs.declared.sizes.SizeNumbers.{SizeNumbers}
use Rattle.zim_logic_rows.specs.Numbers.{size_numbers}
use Rattle.zim_logic_rows.specs.Truth.{truth_step}
use Rattle.zim_logic_rows.specs.Absolute.{size_column, size_rows, absolute_made, absolute_step}
use Rattle.zim_logic_rows.proofs.ColumnLaws.{less_is, column_more, column_less, row_same}

abbrev step_by : List Column → List GivenRow → Step
step_by columns rows = record { columns = columns; rows = rows }

abbrev rows_with : RowFrom → LinearForm → ℕ → SizeNumbers → List GivenRow
rows_with source f p n =
    terms_row source (negated_form f ⊕ one ⊙ the p) AtLeast f.constant
    ∷ terms_row source (f ⊕ one ⊙ the p) AtLeast (negate f.constant)
    ∷ terms_row source (negated_form f ⊕ one ⊙ the p ⊕ n.above ⊙ the (p + 1)) AtMost n.right
    ∷ terms_row source (f ⊕ one ⊙ the p ⊕ negate n.under ⊙ the (p + 1)) AtMost (negate f.constant)
    ∷ []

sum_by : (b : Bool) (q r : Rational) (past : Past) → cond b (Ok q) (Err past) ≡ Ok r → r ≡ q
sum_by true q r past h = cc
sum_by false q r past h = cc

sum_is : (a b r : Rational) → sum_answer a b ≡ Ok r → r ≡ plus a b
unfolding sum_answer
sum_is a b r h = sum_by (is_sum_within a b) (plus a b) r (record {}) h

four : (a b c d e f g h : GivenRow) → a ≡ e → b ≡ f → c ≡ g → d ≡ h → a ∷ b ∷ c ∷ d ∷ [] ≡ e ∷ f ∷ g ∷ h ∷ []
four a b c d e f g h p q r s = rw (p, q, r, s) refl

rows_are : (source : RowFrom) (t : Ranged) (p : ℕ) (n : SizeNumbers) → 0 < p → AreTerms t.form.terms → n.right ≡ plus n.above t.form.constant → rows_with source t.form p n ≡ size_rows source t p (p + 1) n.above n.under
rows_are source t p n some ordered right =
    let f : LinearForm = t.form in
    let less = column_less f p some ordered in
    let more = column_more f p some ordered in
    let k : Rational = f.constant in
    four _ _ _ _ _ _ _ _
    (row_same source (negated_form f ⊕ one ⊙ the p) (the p ⊖ f) AtLeast k zero less (let e : k ≡ plus zero (negate (plus zero (negate k))) = rw (zero_plus (negate k), negate_negate k, zero_plus k) refl in e))
    (row_same source (f ⊕ one ⊙ the p) (the p ⊕ f) AtLeast (negate k) zero more (let e : negate k ≡ plus zero (negate (plus zero k)) = rw (zero_plus k, zero_plus (negate k)) refl in e))
    (row_same source (negated_form f ⊕ one ⊙ the p ⊕ n.above ⊙ the (p + 1)) (the p ⊖ f ⊕ n.above ⊙ the (p + 1)) AtMost n.right n.above (ap (λ (g : LinearForm). g ⊕ n.above ⊙ the (p + 1)) less)
    (right ∙ (let e : plus n.above k ≡ plus n.above (negate (plus (plus zero (negate k)) (times zero n.above))) = rw (zero_times n.above, plus_zero (plus zero (negate k)), zero_plus (negate k), negate_negate k) refl in e)))
    (row_same source (f ⊕ one ⊙ the p ⊕ negate n.under ⊙ the (p + 1)) (the p ⊕ f ⊖ n.under ⊙ the (p + 1)) AtMost (negate k) zero
    (ap (λ (g : LinearForm). g ⊕ negate n.under ⊙ the (p + 1)) more ∙ sym (less_is (the p ⊕ f) n.under (p + 1)))
    (let e : negate k ≡ plus zero (negate (plus (plus zero k) (negate (times zero n.under)))) = rw (zero_times n.under, negate_zero, plus_zero (plus zero k), zero_plus k, zero_plus (negate k)) refl in e))

-- ---- three numbers

last_past : {A B : Type 0} (x : Exact) (make : Rational → A) (other : Rational → B) (past : Past) → (x >>= λ r. Ok (make r)) ≡ Err past → (x >>= λ r. Ok (other r)) ≡ Err past
last_past (Ok r) make other past h = cc
last_past (Err e) make other past h = let same : e ≡ past = cc in ap Err same

three_past : {A B : Type 0} (a b : Exact) (c : Rational → Exact) (make : Rational → Rational → Rational → A) (other : Rational → Rational → Rational → B) (past : Past) → (a >>= λ l. b >>= λ h. c l >>= λ r. Ok (make l h r)) ≡ Err past → (a >>= λ l. b >>= λ h. c l >>= λ r. Ok (other l h r)) ≡ Err past
three_past (Err e) b c make other past h = let same : e ≡ past = cc in ap Err same
three_past (Ok l) (Err e) c make other past h = let same : e ≡ past = cc in ap Err same
three_past (Ok l) (Ok u) c make other past h = last_past (c l) (make l u) (other l u) past h

last_gave : {A B : Type 0} (x : Exact) (make : Rational → A) (other : Rational → B) (v : A) → (x >>= λ r. Ok (make r)) ≡ Ok v → (r : Rational) × (x ≡ Ok r) × (v ≡ make r) × ((x >>= λ r. Ok (other r)) ≡ Ok (other r))
last_gave (Ok r) make other v h = (r, refl, cc, refl)
last_gave (Err e) make other v h = cc

three_gave : {A B : Type 0} (a b : Exact) (c : Rational → Exact) (make : Rational → Rational → Rational → A) (other : Rational → Rational → Rational → B) (v : A) → (a >>= λ l. b >>= λ h. c l >>= λ r. Ok (make l h r)) ≡ Ok v
    → (l u r : Rational) × (c l ≡ Ok r) × (v ≡ make l u r) × ((a >>= λ l. b >>= λ h. c l >>= λ r. Ok (other l h r)) ≡ Ok (other l u r))
three_gave (Err e) b c make other v h = cc
three_gave (Ok l) (Err e) c make other v h = cc
three_gave (Ok l) (Ok u) c make other v h =
    let (r, is, made, gave) = last_gave (c l) (make l u) (other l u) v h in
    (l, u, r, is, made, gave)

-- ---- the step

abbrev left : Ranged → Exact
left t = product_answer (whole (neg_ℤ (pos 2))) t.low

abbrev right : Ranged → Exact
right t = product_answer (whole (pos 2)) t.high

abbrev third : Ranged → Rational → Exact
third t low = sum_answer (larger zero low) t.form.constant

abbrev numbers_by : Rational → Rational → Rational → SizeNumbers
numbers_by low high third = record { above = larger zero low; under = larger zero high; right = third }

pub size_stops : (source : RowFrom) (t : Ranged) (p : ℕ) (z : Rational) (fault : LinFault) → z ≡ zero → Stops (truth_step source t z (p + 1)) (form_cause fault) → Stops (absolute_step source t p) (form_cause fault)
unfolding absolute_step
size_stops source t p z fault e h =
    Stops-bind (truth_step source t zero (p + 1)) (λ sign. left t >>= λ low. right t >>= λ high. third t low >>= λ r. Ok (absolute_made source t p sign (larger zero low) (larger zero high))) (form_cause fault) (subst (λ (q : Rational). Stops (truth_step source t q (p + 1)) (form_cause fault)) e h)

pub size_past : (source : RowFrom) (t : Ranged) (p : ℕ) (z : Rational) (sign : Step) (past : Past) → z ≡ zero → truth_step source t z (p + 1) ≡ Ok sign → Err past ≡ size_numbers t → absolute_step source t p ≡ Err past
unfolding absolute_step
size_past source t p z sign past e is h =
    ap (λ (a : Result Step Past). a >>= λ sign. left t >>= λ low. right t >>= λ high. third t low >>= λ r. Ok (absolute_made source t p sign (larger zero low) (larger zero high))) (ap (λ (q : Rational). truth_step source t q (p + 1)) (sym e) ∙ is)
    ∙ three_past (left t) (right t) (third t) numbers_by (λ low high r. absolute_made source t p sign (larger zero low) (larger zero high)) past (sym h)

pub size_gives : (source : RowFrom) (t : Ranged) (p : ℕ) (z : Rational) (n : SizeNumbers) (old new : List NewRow) (columns : List Column) → 0 < p → AreTerms t.form.terms → z ≡ zero → truth_step source t z (p + 1) ≡ Ok (step_of (binary ∷ []) old) → Ok n ≡ size_numbers t
    → map given_row new ≡ map given_row old ++ rows_with source t.form p n → columns ≡ size_column t ∷ binary ∷ [] → absolute_step source t p ≡ Ok (step_of columns new)
unfolding absolute_step
size_gives source t p z n old new columns some ordered e is h made columns_are =
    let sign : Step = step_of (binary ∷ []) old in
    let (low, high, r, r_is, n_is, gave) = three_gave (left t) (right t) (third t) numbers_by (λ low high r. absolute_made source t p sign (larger zero low) (larger zero high)) n (sym h) in
    let right_is : n.right ≡ plus n.above t.form.constant = ap (λ (m : SizeNumbers). m.right) n_is ∙ sum_is (larger zero low) t.form.constant r r_is ∙ ap (λ (m : SizeNumbers). plus m.above t.form.constant) (sym n_is) in
    let rows : map given_row new ≡ map given_row old ++ size_rows source t p (p + 1) (larger zero low) (larger zero high) = made ∙ ap (λ (rs : List GivenRow). map given_row old ++ rs) (rows_are source t p n some ordered right_is ∙ ap (λ (m : SizeNumbers). size_rows source t p (p + 1) m.above m.under) n_is) in
    ap (λ (a : Result Step Past). a >>= λ sign. left t >>= λ low. right t >>= λ high. third t low >>= λ r. Ok (absolute_made source t p sign (larger zero low) (larger zero high))) (ap (λ (q : Rational). truth_step source t q (p + 1)) (sym e) ∙ is)
    ∙ gave
    ∙ ap₂ (λ (cs : List Column) (rs : List GivenRow). Ok (step_by cs rs)) (sym columns_are) (sym rows)
