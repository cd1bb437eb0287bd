-- What the calls for steps of one binary column make is their step.
use Rattle.std.proofs.Common.{ℕ, ◌≡◌, ◌<◌, ◌≤◌, ◌+◌, true, List, [], ◌∷◌, ◌++◌, length, length-append, map, Result, Ok, Err, All, arith, ap, refl, sym, ◌∙◌, subst}
use Rattle.std.proofs.lemmas.List.Elements.{All-cons, All-nil}
use Rattle.zim_answer.specs.Answer.{◌>>=◌}
use Rattle.zim_answer.specs.Gives.{Gives, Stops}
use Rattle.zim_answer.proofs.BindLemmas.{bind_gave}
use Rattle.zim_answer.proofs.GivesLemmas.{Stops-bind}
use Rattle.zim_fault.specs.declared.faults.Fault.{Fault}
use Rattle.zim_fault.specs.declared.faults.Place.{Place}
use Rattle.zim_fault.specs.declared.tokens.Join.{Join}
use Rattle.zim_fraction.specs.declared.fault.Past.{Past}
use Rattle.zim_rational.specs.Rational.{Rational, zero, one, negate}
use Rattle.zim_linear.specs.Forms.{LinearForm, AreTerms, AreColumns}
use Rattle.zim_linear.specs.declared.faults.LinFault.{LinFault}
use Rattle.zim_linear.specs.declared.faults.LinFault.TheVariants as form_refusal
use Rattle.zim_linear.specs.Sums.{negated_form}
use Rattle.zim_forms.specs.Algebra.{◌⊖◌, the, IsBehind, form_cause}
use Rattle.zim_forms.proofs.OverLaws.{IsOver, over_the, over_difference, over_negated, over_more}
use Rattle.zim_rows.specs.declared.rows.Column.{Column}
use Rattle.zim_rows.specs.declared.rows.GivenRow.{GivenRow}
use Rattle.zim_rows.specs.declared.rows.RowFrom.{RowFrom}
use Rattle.zim_rows.specs.declared.rows.Sense.TheVariants as sense
use Rattle.zim_rows.specs.declared.faults.EncodeFault.{EncodeFault}
use Rattle.zim_rows.specs.declared.steps.NewRow.{NewRow}
use Rattle.zim_rows.specs.System.{LinearSystem, IsColumn, IsGivenRow}
use Rattle.zim_rows.specs.Steps.{Step, step_of, given_row, step_placed, binary, encode_cause, IsNewRow}
use Rattle.zim_rows.proofs.StepLaws.{placed_is}
use Rattle.zim_logic_rows.specs.declared.Literal.{Literal}
use Rattle.zim_logic_rows.specs.declared.Ranged.{Ranged}
use Rattle.zim_logic_rows.specs.LogicRows.{compared_row, past_at, next_number, with_binary}
use Rattle.zim_logic_rows.specs.Literals.{is, literal, join_rows, equal_rows, joined_column}
use Rattle.zim_logic_rows.specs.Steps.{past_refused}
use Rattle.zim_logic_rows.specs.Truth.{truth_step, truth_column, opposite}
use Rattle.zim_logic_rows.proofs.BinaryLaws.{binary_step}
use Rattle.zim_logic_rows.proofs.TruthLaws.{truth_of, truth_gave}
use Rattle.zim_logic_rows.proofs.ValidLaws.{new_rows, row_is}
use Rattle.zim_vabs.proofs.AbsoluteFormLaws.{binary_is, pair_parts}
use Rattle.zim_vabs.proofs.RangedLaws.{past_gave}
use Rattle.zim_cond.specs.Conditions.{equal_column}
use Rattle.zim_cond.proofs.LiteralLaws.{form_over, join_rows_are, truth_rows_are}

-- ---- a binary column and its rows

pub one_column : (column : Column) → column ≡ binary → All IsColumn (column ∷ [])
one_column column e = All-cons IsColumn column [] (subst IsColumn (sym e) binary_is) (All-nil IsColumn)

abbrev numbered : ℕ → LinearSystem → Result (ℕ × LinearSystem) Fault
numbered b after = Ok (b, after)

pub binary_stops : (place : Place) (rows : List NewRow) (s : LinearSystem) (column : Column) (refused : EncodeFault) → column ≡ binary → Stops (step_placed place s (step_of (column ∷ []) rows)) (encode_cause refused) → Stops (with_binary place (λ _. map given_row rows) s) (encode_cause refused)
unfolding with_binary
binary_stops place rows s column refused e h =
    Stops-bind (step_placed place s (binary_step (map given_row rows))) (numbered (next_number s)) (encode_cause refused)
    (subst (λ (k : Column). Stops (step_placed place s (step_of (k ∷ []) rows)) (encode_cause refused)) e h)

pub binary_gives : (place : Place) (rows : List NewRow) (s after : LinearSystem) (column : Column) (b : ℕ) → column ≡ binary → step_placed place s (step_of (column ∷ []) rows) ≡ Ok after → b ≡ next_number s → with_binary place (λ _. map given_row rows) s ≡ Ok (b, after)
unfolding with_binary
binary_gives place rows s after column b e h n =
    ap (λ (a : Result LinearSystem Fault). a >>= numbered (next_number s)) (ap (λ (k : Column). step_placed place s (step_of (k ∷ []) rows)) (sym e) ∙ h)
    ∙ ap (λ (m : ℕ). Ok (m, after)) (sym n)

-- ---- joins

pub join_fits : (source : RowFrom) (join : Join) (p q : Literal) (r : ℕ) (s : LinearSystem) (rows : List NewRow) → 0 < p.column → p.column < q.column → q.column ≤ length s.columns → r ≡ next_number s → map given_row rows ≡ join_rows source join (is p) (is q) (the r) → All (IsNewRow (length s.columns + 1)) rows
join_fits source join p q r s rows some order few n made =
    let m : ℕ = length s.columns + 1 in
    new_rows m rows
    (subst (All (IsGivenRow m)) (sym made)
    (join_rows_are source join m (is p) (is q) (the r) (form_over m p.column p.positive some (omega arith)) (form_over m q.column q.positive (omega arith) (omega arith)) (over_the m r (omega arith) (omega arith))))

-- the rows of a system's next column
rows_of_next : (place : Place) (rows : ℕ → List GivenRow) (given : List GivenRow) (s : LinearSystem) (r : ℕ) → r ≡ next_number s → given ≡ rows r → with_binary place rows s ≡ with_binary place (λ _. given) s
unfolding with_binary
rows_of_next place rows given s r n e =
    ap (λ (g : List GivenRow). step_placed place s (binary_step g) >>= numbered (next_number s)) (sym (e ∙ ap rows n))

abbrev literal_of : ℕ × LinearSystem → Result (Literal × LinearSystem) Fault
literal_of made = Ok (literal made.0 true, made.1)

pub join_stops : (source : RowFrom) (join : Join) (p q : Literal) (r : ℕ) (s : LinearSystem) (rows : List NewRow) (refused : EncodeFault) → r ≡ next_number s → map given_row rows ≡ join_rows source join (is p) (is q) (the r)
    → Stops (with_binary source.place (λ _. map given_row rows) s) (encode_cause refused) → Stops (joined_column source join p q s) (encode_cause refused)
unfolding joined_column
join_stops source join p q r s rows refused n made h =
    Stops-bind (with_binary source.place (λ k. join_rows source join (is p) (is q) (the k)) s) literal_of (encode_cause refused)
    (subst (λ (a : Result (ℕ × LinearSystem) Fault). Stops a (encode_cause refused)) (sym (rows_of_next source.place (λ k. join_rows source join (is p) (is q) (the k)) (map given_row rows) s r n made)) h)

pub join_gives : (source : RowFrom) (join : Join) (p q : Literal) (r b : ℕ) (s after : LinearSystem) (rows : List NewRow) → r ≡ next_number s → map given_row rows ≡ join_rows source join (is p) (is q) (the r)
    → with_binary source.place (λ _. map given_row rows) s ≡ Ok (b, after) → joined_column source join p q s ≡ Ok (literal b true, after)
unfolding joined_column
join_gives source join p q r b s after rows n made h =
    ap (λ (a : Result (ℕ × LinearSystem) Fault). a >>= literal_of) (rows_of_next source.place (λ k. join_rows source join (is p) (is q) (the k)) (map given_row rows) s r n made ∙ h)

-- ---- truth columns

pub next_is_behind : (t : LinearForm) (s : LinearSystem) (b : ℕ) → AreColumns (length s.columns) t.terms → b ≡ next_number s → IsBehind b t
next_is_behind t s b over e = (length s.columns, omega arith, over)

pub truth_fits : (source : RowFrom) (t : Ranged) (c : Rational) (b : ℕ) (s : LinearSystem) (rows : List NewRow) → AreTerms t.form.terms → AreColumns (length s.columns) t.form.terms → b ≡ next_number s → truth_step source t c b ≡ Ok (step_of (binary ∷ []) rows) → All (IsNewRow (length s.columns + 1)) rows
truth_fits source t c b s rows ordered over n made =
    let step_is : step_of (binary ∷ []) rows ≡ truth_of source t c (next_number s) = truth_gave source t c b (step_of (binary ∷ []) rows) made ∙ ap (truth_of source t c) n in
    new_rows (length s.columns + 1) rows
    (subst (All (IsGivenRow (length s.columns + 1))) (sym (ap (λ (m : Step). m.rows) step_is)) (truth_rows_are source t c (length s.columns) (record { ordered = ordered; columns = over })))

abbrev placed_there : Place → LinearSystem → Step → Result (ℕ × LinearSystem) Fault
placed_there place s step = step_placed place s step >>= numbered (next_number s)

truth_begins : (source : RowFrom) (t : Ranged) (c : Rational) (b : ℕ) (s : LinearSystem) (rows : List NewRow) → b ≡ next_number s → truth_step source t c b ≡ Ok (step_of (binary ∷ []) rows) → truth_column source c t s ≡ with_binary source.place (λ _. map given_row rows) s
unfolding truth_column with_binary
truth_begins source t c b s rows n made =
    ap (λ (a : Result Step Past). past_at source.place a >>= placed_there source.place s) (ap (truth_step source t c) (sym n) ∙ made)

pub past_stops : {A : Type 0} (place : Place) (answer : Result A Past) (fault : LinFault) → Stops answer (form_cause fault) → Stops (past_at place answer) (encode_cause (past_refused place fault))
past_stops place (Ok v) form_refusal.Past h = cc
past_stops place (Err past) form_refusal.Past h = refl
past_stops place answer form_refusal.Memory h = tt

pub truth_past : (source : RowFrom) (t : Ranged) (c : Rational) (b : ℕ) (s : LinearSystem) (fault : LinFault) (refused : EncodeFault) → b ≡ next_number s → refused ≡ past_refused source.place fault → Stops (truth_step source t c b) (form_cause fault) → Stops (truth_column source c t s) (encode_cause refused)
unfolding truth_column
truth_past source t c b s fault refused n e h =
    subst (λ (r : EncodeFault). Stops (truth_column source c t s) (encode_cause r)) (sym e)
    (Stops-bind (past_at source.place (truth_step source t c (next_number s))) (placed_there source.place s) (encode_cause (past_refused source.place fault))
    (past_stops source.place (truth_step source t c (next_number s)) fault (subst (λ (m : ℕ). Stops (truth_step source t c m) (form_cause fault)) n h)))

pub truth_told : (source : RowFrom) (t : Ranged) (c : Rational) (b : ℕ) (s after : LinearSystem) (rows : List NewRow) (r : Result ℕ EncodeFault) → b ≡ next_number s → truth_step source t c b ≡ Ok (step_of (binary ∷ []) rows)
    → Gives (λ (n : ℕ). (n, after)) encode_cause (with_binary source.place (λ _. map given_row rows) s) r → Gives (λ (n : ℕ). (n, after)) encode_cause (truth_column source c t s) r
truth_told source t c b s after rows r n made h =
    subst (λ (a : Result (ℕ × LinearSystem) Fault). Gives (λ (n : ℕ). (n, after)) encode_cause a r) (sym (truth_begins source t c b s rows n made)) h

-- ---- equality

pub record IsGrown (s : LinearSystem) (b : ℕ) (after : LinearSystem) : Type 0 where
  pub number : b ≡ length s.columns + 1
  pub size : length after.columns ≡ length s.columns + 1

pub truth_grown : (source : RowFrom) (c : Rational) (t : Ranged) (s : LinearSystem) (b : ℕ) (after : LinearSystem) → truth_column source c t s ≡ Ok (b, after) → IsGrown s b after
unfolding truth_column
truth_grown source c t s b after h =
    let (step, step_is, rest) = bind_gave (past_at source.place (truth_step source t c (next_number s))) _ (b, after) h in
    let (later, later_is, pair) = bind_gave (step_placed source.place s step) _ (b, after) rest in
    let (b_is, after_is) = pair_parts (next_number s) b later after pair in
    let step_made : step ≡ truth_of source t c (next_number s) = truth_gave source t c (next_number s) step (past_gave source.place _ step step_is) in
    let columns : after.columns ≡ s.columns ++ binary ∷ [] = ap (λ (m : LinearSystem). m.columns) (sym after_is ∙ placed_is source.place s later step later_is) ∙ ap (λ (m : Step). s.columns ++ m.columns) step_made in
    record { number = sym b_is; size = ap length columns ∙ length-append s.columns (binary ∷ []) }

pub opposite_over : (t turned : Ranged) (s : LinearSystem) (b : ℕ) (after : LinearSystem) → turned ≡ opposite t → AreTerms t.form.terms → AreColumns (length s.columns) t.form.terms → IsGrown s b after → AreColumns (length after.columns) turned.form.terms
opposite_over t turned s b after e ordered over grown =
    let size : length after.columns ≡ length s.columns + 1 = grown.size in
    let all : IsOver (length after.columns) (negated_form t.form) =
    over_more (length s.columns) (length after.columns) (negated_form t.form) (omega arith) (over_negated (length s.columns) t.form (record { ordered = ordered; columns = over })) in
    subst (λ (r : Ranged). AreColumns (length after.columns) r.form.terms) (sym e) all.columns

abbrev equal_behind : RowFrom → ℕ → ℕ × LinearSystem → Result (ℕ × LinearSystem) Fault
equal_behind source g made = with_binary source.place (equal_rows source g made.0) made.1

abbrev equal_after : RowFrom → Ranged → ℕ × LinearSystem → Result (ℕ × LinearSystem) Fault
equal_after source t made = truth_column source zero (opposite t) made.1 >>= equal_behind source made.0

pub equal_stops : (source : RowFrom) (t : Ranged) (s : LinearSystem) (z : Rational) (refused : EncodeFault) → z ≡ zero → Stops (truth_column source z t s) (encode_cause refused) → Stops (equal_column source t s) (encode_cause refused)
equal_stops source t s z refused e h =
    Stops-bind (truth_column source zero t s) (equal_after source t) (encode_cause refused)
    (subst (λ (q : Rational). Stops (truth_column source q t s) (encode_cause refused)) e h)

equal_begins : (source : RowFrom) (t : Ranged) (s s1 : LinearSystem) (z : Rational) (g : ℕ) → z ≡ zero → truth_column source z t s ≡ Ok (g, s1) → equal_column source t s ≡ equal_after source t (g, s1)
equal_begins source t s s1 z g e h =
    ap (λ (a : Result (ℕ × LinearSystem) Fault). a >>= equal_after source t) (ap (λ (q : Rational). truth_column source q t s) (sym e) ∙ h)

pub equal_second_stops : (source : RowFrom) (t turned : Ranged) (s s1 : LinearSystem) (z y : Rational) (g : ℕ) (refused : EncodeFault) → z ≡ zero → truth_column source z t s ≡ Ok (g, s1) → turned ≡ opposite t → y ≡ zero
    → Stops (truth_column source y turned s1) (encode_cause refused) → Stops (equal_column source t s) (encode_cause refused)
equal_second_stops source t turned s s1 z y g refused e first is d h =
    subst (λ (a : Result (ℕ × LinearSystem) Fault). Stops a (encode_cause refused)) (sym (equal_begins source t s s1 z g e first))
    (Stops-bind (truth_column source zero (opposite t) s1) (equal_behind source g) (encode_cause refused)
    (subst (λ (r : Ranged). Stops (truth_column source zero r s1) (encode_cause refused)) is (subst (λ (q : Rational). Stops (truth_column source q turned s1) (encode_cause refused)) d h)))

pub equal_told : (source : RowFrom) (t turned : Ranged) (s s1 s2 after : LinearSystem) (z y : Rational) (g l e : ℕ) (rows : List NewRow) (r : Result ℕ EncodeFault) → z ≡ zero → truth_column source z t s ≡ Ok (g, s1) → turned ≡ opposite t → y ≡ zero → truth_column source y turned s1 ≡ Ok (l, s2)
    → e ≡ next_number s2 → map given_row rows ≡ equal_rows source g l e → Gives (λ (n : ℕ). (n, after)) encode_cause (with_binary source.place (λ _. map given_row rows) s2) r → Gives (λ (n : ℕ). (n, after)) encode_cause (equal_column source t s) r
equal_told source t turned s s1 s2 after z y g l e rows r ze first is ye second n made h =
    let begins : equal_column source t s ≡ with_binary source.place (λ _. map given_row rows) s2 =
    equal_begins source t s s1 z g ze first
    ∙ ap (λ (a : Result (ℕ × LinearSystem) Fault). a >>= equal_behind source g) (ap (λ (k : Ranged). truth_column source zero k s1) (sym is) ∙ ap (λ (q : Rational). truth_column source q turned s1) (sym ye) ∙ second)
    ∙ rows_of_next source.place (equal_rows source g l) (map given_row rows) s2 e n made in
    subst (λ (a : Result (ℕ × LinearSystem) Fault). Gives (λ (n : ℕ). (n, after)) encode_cause a r) (sym begins) h

pub equal_fits : (source : RowFrom) (g l e : ℕ) (s2 : LinearSystem) (rows : List NewRow) → 0 < g → g < l → l ≤ length s2.columns → e ≡ next_number s2 → map given_row rows ≡ equal_rows source g l e → All (IsNewRow (length s2.columns + 1)) rows
equal_fits source g l e s2 rows some order few n made =
    let m : ℕ = length s2.columns + 1 in
    let form = over_difference m (the e ⊖ the g) (the l) (over_difference m (the e) (the g) (over_the m e (omega arith) (omega arith)) (over_the m g some (omega arith))) (over_the m l (omega arith) (omega arith)) in
    let row : GivenRow = compared_row source (the e ⊖ the g ⊖ the l) sense.Equal (negate one) in
    new_rows m rows (subst (All (IsGivenRow m)) (sym made) (All-cons (IsGivenRow m) row [] (row_is m source (the e ⊖ the g ⊖ the l) sense.Equal (negate one) form) (All-nil (IsGivenRow m))))
