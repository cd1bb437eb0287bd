-- Steps of one binary column as literals: truth columns, joins and negations.
use Rattle.std.proofs.Common.{ℕ, ◌≡◌, ◌<◌, ◌≤◌, ◌+◌, ◌-◌, ◌↔◌, Bool, true, false, not, IsTrue, List, [], ◌∷◌, ◌++◌, length, length-append, take, map, Ok, All, arith, refl, ap, ap₂, sym, ◌∙◌, subst}
use Rattle.std.proofs.lemmas.List.{get_or-take, get_or_push}
use Rattle.std.proofs.lemmas.List.Elements.{All-cons, All-nil}
use Rattle.zim_answer.specs.Answer.{◌>>=◌}
use Rattle.zim_answer.proofs.BindLemmas.{bind_gave}
use Rattle.zim_fault.specs.declared.faults.Place.{Place}
use Rattle.zim_fault.specs.declared.tokens.Join.{Join}
use Rattle.zim_fault.specs.declared.tokens.Join.TheVariants.{And, Or, Xor}
use Rattle.zim_rational.specs.Rational.{Rational, zero, one, plus, minus, negate, at_most, is_whole, IsBinary}
use Rattle.zim_rational.proofs.Ring.{minus_self, minus_zero, minus_is, negate_minus, plus_comm, minus_plus}
use Rattle.zim_linear.specs.Forms.{LinearForm, number_at}
use Rattle.zim_linear.specs.Ends.{unbounded}
use Rattle.zim_formula.specs.Ground.{joined_truths}
use Rattle.zim_forms.specs.Algebra.{◌⊕◌, ◌⊖◌, ◌⊙◌, known, the}
use Rattle.zim_forms.proofs.AlgebraLaws.{number_the, number_known, number_difference}
use Rattle.zim_forms.proofs.OverLaws.{IsOver, over_sum, over_difference, over_multiple, over_the, over_known, over_more}
use Rattle.zim_rows.specs.declared.rows.Column.{Column}
use Rattle.zim_rows.specs.declared.rows.GivenRow.{GivenRow}
use Rattle.zim_rows.specs.declared.rows.RowFrom.{RowFrom}
use Rattle.zim_rows.specs.declared.rows.Sense.TheVariants as sense
use Rattle.zim_rows.specs.System.{LinearSystem, IsColumn, IsGivenRow, Extends, column_of, column_at}
use Rattle.zim_rows.specs.Points.{IsSystemPoint, KeepConstraints, assigned, given_constraint, first_numbers}
use Rattle.zim_rows.specs.Steps.{with_step, step_placed, binary}
use Rattle.zim_rows.specs.Extending.{IsValid, HasShortSides}
use Rattle.zim_rows.proofs.StepLaws.{each_has_number, placed_is}
use Rattle.zim_rows.proofs.CutLaws.{point_cut}
use Rattle.zim_rows.proofs.ExtendingLaws.{cut_twice, widens_further}
use Rattle.zim_rows.proofs.CoveredStepLaws.{short_further}
use Rattle.zim_logic_rows.specs.declared.Literal.{Literal}
use Rattle.zim_logic_rows.specs.LogicRows.{compared_row, past_at, next_number, with_binary}
use Rattle.zim_logic_rows.specs.declared.Ranged.{Ranged}
use Rattle.zim_logic_rows.specs.Truth.{truth_step, truth_column}
use Rattle.zim_logic_rows.proofs.TruthLaws.{RangesAt, truth_of, truth_gave, truth_kept}
use Rattle.zim_vabs.proofs.RangedLaws.{past_gave}
use Rattle.zim_logic_rows.specs.Literals.{number_of, literal_form, is, literal, negation, join_rows, joined_column}
use Rattle.zim_logic_rows.proofs.BinaryLaws.{binary_step, binary_tells}
use Rattle.zim_logic_rows.proofs.JoinLaws.{join_kept}
use Rattle.zim_logic_rows.proofs.ValidLaws.{step_valid, row_is}
use Rattle.zim_vabs.proofs.TermLaws.{columns_after}
use Rattle.zim_vabs.proofs.AbsoluteFormLaws.{binary_is, binary_short, pair_parts}
use Rattle.zim_cond.specs.Meaning.{LiteralMade}

-- ---- the number of a literal at a point

abbrev pub literal_at : List Rational → Literal → Rational
literal_at q l = number_at (assigned q) (is l)

literal_at_the : (q : List Rational) (b : ℕ) → number_at (assigned q) (literal_form b true) ≡ assigned q b
literal_at_the q b = number_the (assigned q) b

literal_at_not : (q : List Rational) (b : ℕ) → number_at (assigned q) (literal_form b false) ≡ minus one (assigned q b)
literal_at_not q b =
    number_difference (assigned q) (known one) (the b) ∙ ap₂ minus (number_known (assigned q) one) (number_the (assigned q) b)

-- a literal of an earlier system is at a later point what it is at the cut
kept_form : (n : ℕ) (q : List Rational) (b : ℕ) (flag : Bool) → 0 < b → b ≤ n → number_at (assigned (take n q)) (literal_form b flag) ≡ number_at (assigned q) (literal_form b flag)
kept_form n q b true some few =
    literal_at_the (take n q) b ∙ get_or-take n q (b - 1) zero (omega arith) ∙ sym (literal_at_the q b)
kept_form n q b false some few =
    literal_at_not (take n q) b ∙ ap (minus one) (get_or-take n q (b - 1) zero (omega arith)) ∙ sym (literal_at_not q b)

pub kept_literal : (n : ℕ) (q : List Rational) (l : Literal) → 0 < l.column → l.column ≤ n → literal_at (take n q) l ≡ literal_at q l
kept_literal n q l some few = kept_form n q l.column l.positive some few

-- a new column is one from 1
pub from_one : (base before after : LinearSystem) (truth : List Rational → Bool) (l : Literal) → LiteralMade base before truth l after → 0 < l.column
from_one base before after truth l made = let lt : length before.columns < l.column = made.is_new in omega arith

-- what was told at an earlier system stays told
pub stays : (base before middle after : LinearSystem) (truth : List Rational → Bool) (l : Literal) → LiteralMade base before truth l middle → Extends middle base → Extends after middle → (q : List Rational) → IsSystemPoint after q → literal_at q l ≡ number_of (truth (first_numbers base q))
stays base before middle after truth l made under more q point =
    sym (kept_literal (length middle.columns) q l (from_one base before middle truth l made) made.in_columns)
    ∙ made.tells (first_numbers middle q) (point_cut after middle q made.valid more point)
    ∙ ap (λ p. number_of (truth p)) (cut_twice middle base q under)

-- ---- a step of one binary column

last_column : (columns : List Column) → column_at (columns ++ binary ∷ []) (length columns + 1) ≡ binary
last_column columns = get_or_push columns binary (column_of false unbounded) (length columns + 1 - 1) (omega arith)

pub column_made : (base before : LinearSystem) (truth : List Rational → Bool) (place : Place) (rows : List GivenRow) (after : LinearSystem) → IsValid before → Extends before base → All (IsGivenRow (length before.columns + 1)) rows → step_placed place before (binary_step rows) ≡ Ok after
    → ((p : List Rational) (w : Rational) → IsSystemPoint before p → IsBinary w → KeepConstraints (assigned (p ++ w ∷ [])) (map given_constraint rows) ↔ ((w ≡ one) ↔ IsTrue (truth (first_numbers base p))))
    → LiteralMade base before truth (literal (next_number before) true) (with_step before (binary_step rows))
column_made base before truth place rows after is over each h says =
    let n : ℕ = length before.columns in
    let size : length (before.columns ++ binary ∷ []) ≡ n + 1 = length-append before.columns (binary ∷ []) in
    let told = binary_tells before rows (λ p. truth (first_numbers base p)) is says in
    record {
      valid = step_valid place before (binary_step rows) after is (All-cons IsColumn binary [] binary_is (All-nil IsColumn)) each h;
      widens = told.0;
      is_new = let lt : n < n + 1 = omega arith in lt;
      in_columns = omega arith;
      is_binary = last_column before.columns;
      tells = λ q point. number_the (assigned q) (next_number before) ∙ told.1 q point ∙ ap (λ (v : List Rational). number_of (truth v)) (cut_twice before base q over);
      covered = λ c. short_further before (binary_step rows) c (All-cons HasShortSides binary [] binary_short (All-nil HasShortSides));
    }

-- ---- joins

first_joined : (n : ℕ) (p vs : List Rational) → length p ≡ n → take n (p ++ vs) ≡ p
first_joined n [] vs e = rw (sym e) refl
first_joined n (v ∷ p) vs e = rw (sym e) (ap (λ (r : List Rational). v ∷ r) (first_joined (length p) p vs refl))

-- a literal at a point with a further number is what was told at the point
pub told_before : (base before : LinearSystem) (truth : List Rational → Bool) (l : Literal) (v : List Rational) (w : Rational) → IsSystemPoint before v → 0 < l.column → l.column ≤ length before.columns
    → ((u : List Rational) → IsSystemPoint before u → literal_at u l ≡ number_of (truth (first_numbers base u))) → literal_at (v ++ w ∷ []) l ≡ number_of (truth (first_numbers base v))
told_before base before truth l v w point some few tells =
    sym (kept_literal (length before.columns) (v ++ w ∷ []) l some few)
    ∙ ap (λ (u : List Rational). literal_at u l) (first_joined (length before.columns) v (w ∷ []) (each_has_number before.columns v point.columns))
    ∙ tells v point

-- the next column at such a point is that number
pub next_is : (before : LinearSystem) (v : List Rational) (w : Rational) → IsSystemPoint before v → number_at (assigned (v ++ w ∷ [])) (the (next_number before)) ≡ w
next_is before v w point =
    let size = each_has_number before.columns v point.columns in
    number_the (assigned (v ++ w ∷ [])) (next_number before) ∙ get_or_push v w zero (length before.columns + 1 - 1) (omega arith)

pub form_over : (n b : ℕ) (flag : Bool) → 0 < b → b ≤ n → IsOver n (literal_form b flag)
form_over n b true some few = over_the n b some few
form_over n b false some few = over_difference n (known one) (the b) (over_known n one) (over_the n b some few)

pub join_rows_are : (source : RowFrom) (join : Join) (n : ℕ) (p q r : LinearForm) → IsOver n p → IsOver n q → IsOver n r → All (IsGivenRow n) (join_rows source join p q r)
join_rows_are source And n p q r f g h =
    let less = over_difference n (r ⊖ p) q (over_difference n r p h f) g in
    let twice = over_difference n (r ⊕ r ⊖ p) q (over_difference n (r ⊕ r) p (over_sum n r r h h) f) g in
    let a : GivenRow = compared_row source (r ⊕ r ⊖ p ⊖ q) sense.AtMost zero in
    let b : GivenRow = compared_row source (r ⊖ p ⊖ q) sense.AtLeast (negate one) in
    All-cons (IsGivenRow n) a (b ∷ []) (row_is n source (r ⊕ r ⊖ p ⊖ q) sense.AtMost zero twice)
    (All-cons (IsGivenRow n) b [] (row_is n source (r ⊖ p ⊖ q) sense.AtLeast (negate one) less) (All-nil (IsGivenRow n)))
join_rows_are source Or n p q r f g h =
    let less = over_difference n (r ⊖ p) q (over_difference n r p h f) g in
    let twice = over_difference n (r ⊕ r ⊖ p) q (over_difference n (r ⊕ r) p (over_sum n r r h h) f) g in
    let a : GivenRow = compared_row source (r ⊕ r ⊖ p ⊖ q) sense.AtLeast zero in
    let b : GivenRow = compared_row source (r ⊖ p ⊖ q) sense.AtMost zero in
    All-cons (IsGivenRow n) a (b ∷ []) (row_is n source (r ⊕ r ⊖ p ⊖ q) sense.AtLeast zero twice)
    (All-cons (IsGivenRow n) b [] (row_is n source (r ⊖ p ⊖ q) sense.AtMost zero less) (All-nil (IsGivenRow n)))
join_rows_are source Xor n p q r f g h =
    let less = over_difference n r p h f in
    let more = over_sum n r p h f in
    let a : GivenRow = compared_row source (r ⊖ p ⊖ q) sense.AtMost zero in
    let b : GivenRow = compared_row source (r ⊖ p ⊕ q) sense.AtLeast zero in
    let c : GivenRow = compared_row source (r ⊕ p ⊖ q) sense.AtLeast zero in
    let d : GivenRow = compared_row source (r ⊕ p ⊕ q) sense.AtMost (plus one one) in
    All-cons (IsGivenRow n) a (b ∷ c ∷ d ∷ []) (row_is n source (r ⊖ p ⊖ q) sense.AtMost zero (over_difference n (r ⊖ p) q less g))
    (All-cons (IsGivenRow n) b (c ∷ d ∷ []) (row_is n source (r ⊖ p ⊕ q) sense.AtLeast zero (over_sum n (r ⊖ p) q less g))
    (All-cons (IsGivenRow n) c (d ∷ []) (row_is n source (r ⊕ p ⊖ q) sense.AtLeast zero (over_difference n (r ⊕ p) q more g))
    (All-cons (IsGivenRow n) d [] (row_is n source (r ⊕ p ⊕ q) sense.AtMost (plus one one) (over_sum n (r ⊕ p) q more g)) (All-nil (IsGivenRow n)))))

-- the column that joins two literals of the system is the joined truth
pub join_makes : (base before : LinearSystem) (source : RowFrom) (join : Join) (f g : List Rational → Bool) (p q l : Literal) (after : LinearSystem) → IsValid before → Extends before base
    → 0 < p.column → p.column ≤ length before.columns → ((v : List Rational) → IsSystemPoint before v → literal_at v p ≡ number_of (f (first_numbers base v)))
    → 0 < q.column → q.column ≤ length before.columns → ((v : List Rational) → IsSystemPoint before v → literal_at v q ≡ number_of (g (first_numbers base v)))
    → joined_column source join p q before ≡ Ok (l, after) → LiteralMade base before (λ v. joined_truths join (f v) (g v)) l after
unfolding joined_column with_binary
join_makes base before source join f g p q l after valid over p_some p_few p_tells q_some q_few q_tells h =
    let n : ℕ = length before.columns in
    let b : ℕ = next_number before in
    let rows : List GivenRow = join_rows source join (is p) (is q) (the b) in
    let (made, made_is, last) = bind_gave (step_placed source.place before (binary_step rows) >>= λ later. Ok (b, later)) (λ m. Ok (literal m.0 true, m.1)) (l, after) h in
    let (later, later_is, pair) = bind_gave (step_placed source.place before (binary_step rows)) (λ m. Ok (b, m)) made made_is in
    let (l_is, after_is) = pair_parts (literal made.0 true) l made.1 after last in
    let both : ◌≡◌ {A = ℕ × LinearSystem} (b, later) made = cc in
    let placed_there = placed_is source.place before later (binary_step rows) later_is in
    let all : LiteralMade base before (λ v. joined_truths join (f v) (g v)) (literal b true) (with_step before (binary_step rows)) =
    column_made base before (λ v. joined_truths join (f v) (g v)) source.place rows later valid over
    (join_rows_are source join (n + 1) (is p) (is q) (the b) (form_over (n + 1) p.column p.positive p_some (omega arith)) (form_over (n + 1) q.column q.positive q_some (omega arith)) (over_the (n + 1) b (omega arith) (omega arith)))
    later_is
    (λ v w point two.
    let e = next_is before v w point in
    let kept = join_kept source join (assigned (v ++ w ∷ [])) (is p) (is q) (the b) (f (first_numbers base v)) (g (first_numbers base v)) (subst IsBinary (sym e) two) (told_before base before f p v w point p_some p_few p_tells) (told_before base before g q v w point q_some q_few q_tells) in
    subst (λ (m : Rational). KeepConstraints (assigned (v ++ w ∷ [])) (map given_constraint rows) ↔ ((m ≡ one) ↔ IsTrue (joined_truths join (f (first_numbers base v)) (g (first_numbers base v))))) e kept) in
    subst (λ (k : Literal). LiteralMade base before (λ v. joined_truths join (f v) (g v)) k after) (ap (λ (m : ℕ × LinearSystem). literal m.0 true) both ∙ l_is)
    (subst (λ (m : LinearSystem). LiteralMade base before (λ v. joined_truths join (f v) (g v)) (literal b true) m) (sym placed_there ∙ ap (λ (m : ℕ × LinearSystem). m.1) both ∙ after_is) all)

-- ---- truth columns

truth_over : (n : ℕ) (t : LinearForm) (r : Rational) → IsOver n t → IsOver (n + 1) (t ⊖ r ⊙ the (n + 1))
truth_over n t r over =
    over_difference (n + 1) t (r ⊙ the (n + 1)) (over_more n (n + 1) t (omega arith) over) (over_multiple (n + 1) r (the (n + 1)) (over_the (n + 1) (n + 1) (omega arith) (omega arith)))

pub truth_rows_are : (source : RowFrom) (t : Ranged) (c : Rational) (n : ℕ) → IsOver n t.form → All (IsGivenRow (n + 1)) (truth_of source t c (n + 1)).rows
truth_rows_are source t c n over =
    let first : LinearForm = t.form ⊖ minus c t.low ⊙ the (n + 1) in
    let second : LinearForm = t.form ⊖ plus (minus t.high c) one ⊙ the (n + 1) in
    let a : GivenRow = compared_row source first sense.AtLeast t.low in
    let b : GivenRow = compared_row source second sense.AtMost (minus c one) in
    All-cons (IsGivenRow (n + 1)) a (b ∷ []) (row_is (n + 1) source first sense.AtLeast t.low (truth_over n t.form (minus c t.low) over))
    (All-cons (IsGivenRow (n + 1)) b [] (row_is (n + 1) source second sense.AtMost (minus c one) (truth_over n t.form (plus (minus t.high c) one) over)) (All-nil (IsGivenRow (n + 1))))

-- the truth column of `T >= c` is whether T is at least c
pub truth_makes : (base before : LinearSystem) (source : RowFrom) (c : Rational) (t : Ranged) (truth : List Rational → Bool) (b : ℕ) (after : LinearSystem) → IsValid before → Extends before base → IsTrue (is_whole c) → IsOver (length before.columns) t.form
    → ((p : List Rational) → IsSystemPoint before p → RangesAt t p) → ((p : List Rational) → IsSystemPoint before p → at_most c (number_at (assigned p) t.form) ≡ truth (first_numbers base p))
    → truth_column source c t before ≡ Ok (b, after) → LiteralMade base before truth (literal b true) after
unfolding truth_column
truth_makes base before source c t truth b after valid over whole form_over ranges says h =
    let n : ℕ = length before.columns in
    let (step, step_is, rest) = bind_gave (past_at source.place (truth_step source t c (next_number before))) _ (b, after) h in
    let (later, later_is, pair) = bind_gave (step_placed source.place before step) _ (b, after) rest in
    let (b_is, after_is) = pair_parts (next_number before) b later after pair in
    let made : step ≡ truth_of source t c (n + 1) = truth_gave source t c (n + 1) step (past_gave source.place _ step step_is) in
    let there : step_placed source.place before (truth_of source t c (n + 1)) ≡ Ok later = ap (step_placed source.place before) (sym made) ∙ later_is in
    let rows : List GivenRow = (truth_of source t c (n + 1)).rows in
    let all : LiteralMade base before truth (literal (next_number before) true) (with_step before (binary_step rows)) =
    column_made base before truth source.place rows later valid over (truth_rows_are source t c n form_over) there
    (λ p w point two.
    subst (λ (v : Bool). KeepConstraints (assigned (p ++ w ∷ [])) (map given_constraint rows) ↔ ((w ≡ one) ↔ IsTrue v)) (says p point)
    (truth_kept source t c (n + 1) p w (ap (λ (m : ℕ). m + 1) (sym (each_has_number before.columns p point.columns))) whole two (ranges p point))) in
    subst (λ (k : ℕ). LiteralMade base before truth (literal k true) after) b_is
    (subst (λ (m : LinearSystem). LiteralMade base before truth (literal (next_number before) true) m) (sym (placed_is source.place before later (binary_step rows) there) ∙ after_is) all)

-- ---- negations

minus_not : (b : Bool) (v : Rational) → v ≡ number_of b → minus one v ≡ number_of (not b)
unfolding number_of
minus_not true v e = ap (minus one) e ∙ minus_self one
minus_not false v e = ap (minus one) e ∙ minus_zero one

one_minus_twice : (a : Rational) → minus one (minus one a) ≡ a
one_minus_twice a = minus_is one (minus one a) ∙ ap (plus one) (negate_minus one a) ∙ plus_comm one (minus a one) ∙ minus_plus a one

form_negated : (q : List Rational) (b : ℕ) (flag : Bool) → number_at (assigned q) (literal_form b (not flag)) ≡ minus one (number_at (assigned q) (literal_form b flag))
form_negated q b true = literal_at_not q b ∙ sym (ap (minus one) (literal_at_the q b))
form_negated q b false = literal_at_the q b ∙ sym (one_minus_twice (assigned q b)) ∙ sym (ap (minus one) (literal_at_not q b))

-- the negation of a literal is the negated truth
pub negated_made : (base before : LinearSystem) (truth : List Rational → Bool) (l : Literal) (after : LinearSystem) → LiteralMade base before truth l after → LiteralMade base before (λ p. not (truth p)) (negation l) after
negated_made base before truth l after made = record {
  valid = made.valid;
  widens = made.widens;
  is_new = made.is_new;
  in_columns = made.in_columns;
  is_binary = made.is_binary;
  tells = λ q point. form_negated q l.column l.positive ∙ minus_not (truth (first_numbers base q)) _ (made.tells q point);
  covered = made.covered;
}

-- ---- what was made, told on

-- one after another
pub literal_follows : (base before middle after : LinearSystem) (f g : List Rational → Bool) (p l : Literal) → LiteralMade base before f p middle → LiteralMade base middle g l after → LiteralMade base before g l after
literal_follows base before middle after f g p l first second = record {
  valid = second.valid;
  widens = widens_further after middle before first.valid first.widens second.widens;
  is_new = let le = columns_after middle before first.widens.extends in let lt : length middle.columns < l.column = second.is_new in omega arith;
  in_columns = second.in_columns;
  is_binary = second.is_binary;
  tells = second.tells;
  covered = λ c. second.covered (first.covered c);
}

-- the truth in another way
pub literal_retold : (base before after : LinearSystem) (f g : List Rational → Bool) (l : Literal) → ((p : List Rational) → f p ≡ g p) → LiteralMade base before f l after → LiteralMade base before g l after
literal_retold base before after f g l same made = record {
  valid = made.valid;
  widens = made.widens;
  is_new = made.is_new;
  in_columns = made.in_columns;
  is_binary = made.is_binary;
  tells = λ q point. made.tells q point ∙ ap number_of (same (first_numbers base q));
  covered = made.covered;
}

-- the same literal and system, as an encoding gives them
pub literal_given : (base before : LinearSystem) (truth : List Rational → Bool) (k l : Literal) (later after : LinearSystem) → LiteralMade base before truth k later → k ≡ l → later ≡ after → LiteralMade base before truth l after
literal_given base before truth k l later after made same there =
    subst (λ (m : LinearSystem). LiteralMade base before truth l m) there (subst (λ (p : Literal). LiteralMade base before truth p later) same made)
