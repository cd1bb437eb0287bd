-- What the call for a truth column makes is its step.
use Rattle.std.proofs.Common.{ℕ, ◌≡◌, List, [], ◌∷◌, map, Ok, Err, ap, ap₂, refl, sym, ◌∙◌}
use Rattle.zim_fraction.specs.declared.fault.Past.{Past}
use Rattle.zim_rational.specs.Rational.{Rational, one, minus, negate}
use Rattle.zim_linear.specs.Forms.{LinearForm}
use Rattle.zim_forms.specs.Exact.{Exact, ◌⊞◌, ◌⊟◌, of_four}
use Rattle.zim_forms.specs.Algebra.{◌⊕◌, ◌⊖◌, ◌⊙◌, the}
use Rattle.zim_rows.specs.declared.rows.GivenRow.{GivenRow}
use Rattle.zim_rows.specs.declared.rows.RowFrom.{RowFrom}
use Rattle.zim_rows.specs.declared.rows.RowKind.TheVariants.{One}
use Rattle.zim_rows.specs.declared.rows.Sense.TheVariants.{AtLeast, AtMost}
use Rattle.zim_rows.specs.declared.steps.NewRow.{NewRow}
use Rattle.zim_rows.specs.System.{row_of}
use Rattle.zim_rows.specs.Steps.{Step, binary, given_row, step_of}
use Rattle.zim_logic_rows.specs.declared.Ranged.{Ranged}
use Rattle.zim_logic_rows.specs.declared.truth.TruthNumbers.{TruthNumbers}
use Rattle.zim_logic_rows.specs.LogicRows.{compared_row}
use Rattle.zim_logic_rows.specs.Numbers.{truth_numbers}
use Rattle.zim_logic_rows.specs.Truth.{truth_step, truth_made}
use Rattle.zim_logic_rows.proofs.ColumnLaws.{row_less}
use Rattle.zim_logic_rows.proofs.TruthLaws.{exact_minus, minus_gave}

-- what is made of four numbers, and something else that is made of them
of_four_other : {A B : Type 0} (a b c d : Exact) (make : Rational → Rational → Rational → Rational → A) (other : Rational → Rational → Rational → Rational → B) (v : A) → of_four a b c d make ≡ Ok v
    → (p q r s : Rational) × (a ≡ Ok p) × (b ≡ Ok q) × (c ≡ Ok r) × (d ≡ Ok s) × (v ≡ make p q r s) × (of_four a b c d other ≡ Ok (other p q r s))
of_four_other (Ok p) (Ok q) (Ok r) (Ok s) make other v h = (p, q, r, s, refl, refl, refl, refl, cc, refl)
of_four_other (Err e) b c d make other v h = cc
of_four_other (Ok p) (Err e) c d make other v h = cc
of_four_other (Ok p) (Ok q) (Err e) d make other v h = cc
of_four_other (Ok p) (Ok q) (Ok r) (Err e) make other v h = cc

of_four_past : {A B : Type 0} (a b c d : Exact) (make : Rational → Rational → Rational → Rational → A) (other : Rational → Rational → Rational → Rational → B) (past : Past) → of_four a b c d make ≡ Err past → of_four a b c d other ≡ Err past
of_four_past (Ok p) (Ok q) (Ok r) (Ok s) make other past h = cc
of_four_past (Err e) b c d make other past h = let same : e ≡ past = cc in ap Err same
of_four_past (Ok p) (Err e) c d make other past h = let same : e ≡ past = cc in ap Err same
of_four_past (Ok p) (Ok q) (Err e) d make other past h = let same : e ≡ past = cc in ap Err same
of_four_past (Ok p) (Ok q) (Ok r) (Err e) make other past h = let same : e ≡ past = cc in ap Err same

abbrev rows_with : RowFrom → LinearForm → ℕ → TruthNumbers → List GivenRow
rows_with source f b n =
    row_of source (f ⊕ negate n.rise ⊙ the b).terms (One AtLeast n.first) ∷ row_of source (f ⊕ negate n.fall ⊙ the b).terms (One AtMost n.second) ∷ []

abbrev step_with : List GivenRow → Step
step_with rows = record { columns = binary ∷ []; rows = rows }

pub truth_past : (source : RowFrom) (t : Ranged) (c : Rational) (b : ℕ) (past : Past) → Err past ≡ truth_numbers t c → truth_step source t c b ≡ Err past
unfolding truth_step
truth_past source t c b past h =
    of_four_past (Ok c ⊟ Ok t.low) (Ok t.low ⊟ Ok t.form.constant) (Ok t.high ⊟ Ok c ⊞ Ok one) (Ok c ⊟ Ok one ⊟ Ok t.form.constant) (λ p q r s. record { rise = p; first = q; fall = r; second = s }) (λ rise first fall second. truth_made source t.form b rise t.low fall (minus c one)) past (sym h)

pub truth_gives : (source : RowFrom) (t : Ranged) (c : Rational) (b : ℕ) (n : TruthNumbers) (rows : List NewRow) → Ok n ≡ truth_numbers t c → map given_row rows ≡ rows_with source t.form b n → truth_step source t c b ≡ Ok (step_of (binary ∷ []) rows)
unfolding truth_step
truth_gives source t c b n rows h made =
    let (p, q, r, s, pa, qa, ra, sa, n_is, other) = of_four_other (Ok c ⊟ Ok t.low) (Ok t.low ⊟ Ok t.form.constant) (Ok t.high ⊟ Ok c ⊞ Ok one) (Ok c ⊟ Ok one ⊟ Ok t.form.constant) (λ p q r s. record { rise = p; first = q; fall = r; second = s }) (λ rise first fall second. truth_made source t.form b rise t.low fall (minus c one)) n (sym h) in
    let (below, below_is, s_is) = minus_gave (Ok c ⊟ Ok one) t.form.constant s sa in
    let first : row_of source (t.form ⊕ negate p ⊙ the b).terms (One AtLeast q) ≡ compared_row source (t.form ⊖ p ⊙ the b) AtLeast t.low = row_less source t.form p b AtLeast q t.low (exact_minus t.low t.form.constant q qa) in
    let second : row_of source (t.form ⊕ negate r ⊙ the b).terms (One AtMost s) ≡ compared_row source (t.form ⊖ r ⊙ the b) AtMost (minus c one) = row_less source t.form r b AtMost s (minus c one) (s_is ∙ ap (λ (v : Rational). minus v t.form.constant) (exact_minus c one below below_is)) in
    let all : map given_row rows ≡ compared_row source (t.form ⊖ p ⊙ the b) AtLeast t.low ∷ compared_row source (t.form ⊖ r ⊙ the b) AtMost (minus c one) ∷ [] = made ∙ ap (rows_with source t.form b) n_is ∙ ap₂ (λ (f g : GivenRow). f ∷ g ∷ []) first second in
    other ∙ ap (λ (rs : List GivenRow). Ok (step_with rs)) (sym all)
