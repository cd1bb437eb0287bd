-- What comparisons and ranges make: rows that hold at a point exactly where what they compare does, or the guard is off.
use Rattle.std.proofs.Common.{ℕ, ◌≡◌, ◌+◌, ◌↔◌, ◌&&◌, Bool, IsTrue, List, [], ◌∷◌, ◌++◌, append-nil, length, map, Some, None, Result, Ok, All, arith, refl, ap, sym, ◌∙◌, subst}
use Rattle.std.proofs.lemmas.Bool.{and_parts}
use Rattle.std.proofs.lemmas.List.Elements.{All-nil}
use Rattle.zim_answer.proofs.BindLemmas.{bind_gave}
use Rattle.zim_fault.specs.declared.faults.Fault.{Fault}
use Rattle.zim_fault.specs.declared.faults.Place.{Place}
use Rattle.zim_fault.specs.declared.tokens.Relation.{Relation}
use Rattle.zim_rational.specs.Rational.{Rational, minus, IsAtMost}
use Rattle.zim_linear.specs.Forms.{LinearForm, AreColumns, sum_at, number_at}
use Rattle.zim_linear.specs.Ends.{IsBetween, least_answer, greatest_answer}
use Rattle.zim_linear.specs.declared.sides.Sides.{Sides}
use Rattle.zim_linear.proofs.RangeLaws.{ends_kept}
use Rattle.zim_formula.specs.Ground.{related, term_number}
use Rattle.zim_formula.specs.GroundRules.{is_row_relation, is_range_relation, is_term_over}
use Rattle.zim_formula.specs.declared.ground.GTerm.{GTerm}
use Rattle.zim_formula.specs.declared.ground.GCon.{GCon-F}
use Rattle.zim_forms.specs.FormEnds.{both_ends}
use Rattle.zim_forms.proofs.OverLaws.{IsOver}
use Rattle.zim_rows.specs.declared.rows.Column.{Column}
use Rattle.zim_rows.specs.declared.rows.GivenRow.{GivenRow}
use Rattle.zim_rows.specs.declared.rows.RowFrom.{RowFrom}
use Rattle.zim_rows.specs.System.{LinearSystem, IsColumn, IsGivenRow}
use Rattle.zim_rows.specs.Points.{IsSystemPoint, KeepColumns, KeepConstraints, assigned, given_constraint, first_numbers}
use Rattle.zim_rows.specs.Steps.{Step, with_step, step_placed}
use Rattle.zim_rows.specs.Extending.{IsValid, HasShortSides, Fits, FitsOnce}
use Rattle.zim_rows.proofs.StepLaws.{step_narrows_to, placed_is}
use Rattle.zim_rows.proofs.CoveredStepLaws.{short_further}
use Rattle.zim_logic_rows.specs.declared.Literal.{Literal}
use Rattle.zim_logic_rows.specs.LogicRows.{with_rows}
use Rattle.zim_logic_rows.specs.Literals.{is}
use Rattle.zim_logic_rows.proofs.ValidLaws.{step_valid}
use Rattle.zim_vabs.specs.Meaning.{FormMade}
use Rattle.zim_vabs.specs.Terms.{from_place, makes_term}
use Rattle.zim_vabs.proofs.RangedLaws.{past_gave}
use Rattle.zim_vabs.proofs.TermLaws.{term_told}
use Rattle.zim_cond.specs.Conditions.{difference_of}
use Rattle.zim_cond.proofs.LiteralLaws.{form_over}
use Rattle.zim_cond.proofs.CompareLeafLaws.{difference_made}
use Rattle.zim_vif.specs.Constraints.{Guard, ends_at, comparison_rows, low_of_range, high_of_range, ranged_rows, constraint_makes}
use Rattle.zim_vif.proofs.ColumnPointLaws.{are_between}
use Rattle.zim_vif.proofs.GuardLaws.{IsGuarding, asked, PartMade, MakesPart, part_behind, guarding_later}
use Rattle.zim_vif.proofs.RowLaws.{both_ways, plain_kept, plain_over, range_kept, range_over, sides_gave, sides_say, above_side, under_side}
use Rattle.zim_vif.proofs.GuardedRowLaws.{guarded_kept, guarded_over, guarded_range_kept, guarded_range_over}

-- ---- a step of rows alone

abbrev row_step : List GivenRow → Step
row_step rows = record { columns = []; rows = rows }

no_more : (p : List Rational) (rows : List GivenRow) → KeepConstraints (assigned (p ++ [])) (map given_constraint rows) ↔ KeepConstraints (assigned p) (map given_constraint rows)
no_more p rows = (
  λ h. subst (λ (q : List Rational). KeepConstraints (assigned q) (map given_constraint rows)) (append-nil p) h,
  λ h. subst (λ (q : List Rational). KeepConstraints (assigned q) (map given_constraint rows)) (sym (append-nil p)) h,
)

nothing_fits : (p vs : List Rational) (rows : List GivenRow) → Fits (row_step rows) p vs → vs ≡ []
nothing_fits p [] rows fits = refl
nothing_fits p (v ∷ vs) rows fits = absurd fits.columns

row_fits : (p : List Rational) (rows : List GivenRow) → KeepConstraints (assigned p) (map given_constraint rows) → FitsOnce (row_step rows) p
row_fits p rows kept = record {
  one = [];
  fits = record { columns = tt; rows = (no_more p rows).1 kept };
  only = λ vs fits. nothing_fits p vs rows fits;
}

fitting_kept : (p vs : List Rational) (rows : List GivenRow) → Fits (row_step rows) p vs → KeepConstraints (assigned p) (map given_constraint rows)
fitting_kept p [] rows fits = (no_more p rows).0 fits.rows
fitting_kept p (v ∷ vs) rows fits = absurd fits.columns

-- what a step of rows leaves
pub rows_gave : (place : Place) (rows : List GivenRow) (s : LinearSystem) (made : Unit {0} × LinearSystem) → with_rows place rows s ≡ Ok made → step_placed place s (row_step rows) ≡ Ok made.1
unfolding with_rows
rows_gave place rows s made h =
    let (later, later_is, last) = bind_gave (step_placed place s (row_step rows)) _ made h in
    later_is ∙ ap Ok (same_system last) where
      same_system : {a : LinearSystem} {m : Unit {0} × LinearSystem} → ◌≡◌ {A = Result (Unit {0} × LinearSystem) Fault} (Ok (tt, a)) (Ok m) → a ≡ m.1
      same_system {a = a} {m = m} e = let pair : ◌≡◌ {A = Unit {0} × LinearSystem} (tt, a) m = cc in ap (λ (p : Unit {0} × LinearSystem). p.1) pair

same_room : (n : ℕ) (rows : List GivenRow) → All (IsGivenRow n) rows → All (IsGivenRow (n + length {A = Column} [])) rows
same_room n rows each = let e : n ≡ n + 0 = omega arith in subst (λ (m : ℕ). All (IsGivenRow m) rows) e each

-- rows that hold at a point exactly where a truth is asked
pub rows_make : (base s : LinearSystem) (place : Place) (rows : List GivenRow) (g t : List Rational → Bool) (made : Unit {0} × LinearSystem) → IsValid s → All (IsGivenRow (length s.columns)) rows
    → ((p : List Rational) → IsSystemPoint s p → KeepConstraints (assigned p) (map given_constraint rows) ↔ IsTrue (asked (g (first_numbers base p)) (t (first_numbers base p))))
    → with_rows place rows s ≡ Ok made → PartMade base s g t made.1
rows_make base s place rows g t made is each says h =
    let placed = rows_gave place rows s made h in
    let there : made.1 ≡ with_step s (row_step rows) = placed_is place s made.1 (row_step rows) placed in
    let all : PartMade base s g t (with_step s (row_step rows)) = record {
      valid = step_valid place s (row_step rows) made.1 is (All-nil IsColumn) (same_room (length s.columns) rows each) placed;
      narrows =
          step_narrows_to s (row_step rows) (λ p. asked (g (first_numbers base p)) (t (first_numbers base p))) is
          (λ p point asks. row_fits p rows ((says p point).1 asks))
          (λ p vs point fits. (says p point).0 (fitting_kept p vs rows fits));
      covered = λ c. short_further s (row_step rows) c (All-nil HasShortSides);
    } in
    subst (λ (m : LinearSystem). PartMade base s g t m) (sym there) all

-- ---- the ends at a point

both_gave : (sides : List Sides) (f : LinearForm) (ends : Sides) → both_ends sides f.terms ≡ Ok ends → (least_answer sides f.terms ≡ Ok ends.low) × (greatest_answer sides f.terms ≡ Ok ends.high)
both_gave sides f ends h =
    let a = bind_gave (least_answer sides f.terms) _ ends h in
    let b = bind_gave (greatest_answer sides f.terms) _ ends a.2 in
    let e : ◌≡◌ {A = Sides} (record { low = a.0; high = b.0 }) ends = cc in
    (a.1 ∙ ap Ok (ap (λ (s : Sides). s.low) e), b.1 ∙ ap Ok (ap (λ (s : Sides). s.high) e))

between_ends : (place : Place) (f : LinearForm) (s : LinearSystem) (ends : Sides) (p : List Rational) → AreColumns (length s.columns) f.terms → ends_at place f s ≡ Ok ends → KeepColumns s.columns p → IsBetween ends (sum_at (assigned p) f.terms)
between_ends place f s ends p over h kept =
    let sides : List Sides = map (λ (c : Column). c.sides) s.columns in
    let both = both_gave sides f ends (past_gave place _ ends h) in
    ends_kept sides f.terms ends both.0 both.1 (assigned p) (are_between s.columns p f.terms kept over)

literal_over : (base s : LinearSystem) (g : List Rational → Bool) (l : Literal) → IsGuarding base s (Some l) g → IsOver (length s.columns) (is l)
literal_over base s g l on = form_over (length s.columns) l.column l.positive on.from_one on.in_columns

-- ---- comparisons

same_rows : {a b : List GivenRow} → ◌≡◌ {A = Result (List GivenRow) Fault} (Ok a) (Ok b) → b ≡ a
same_rows h = cc

pub comparison_over : (base s : LinearSystem) (source : RowFrom) (guard : Guard) (g : List Rational → Bool) (relation : Relation) (f : LinearForm) (rows : List GivenRow) → IsGuarding base s guard g → IsOver (length s.columns) f → comparison_rows source guard relation f s ≡ Ok rows → All (IsGivenRow (length s.columns)) rows
unfolding comparison_rows
comparison_over base s source None g relation f rows on over h =
    subst (All (IsGivenRow (length s.columns))) (sym (same_rows h)) (plain_over (length s.columns) source relation f over)
comparison_over base s source (Some l) g relation f rows on over h =
    let (ends, ends_are, rest) = bind_gave (ends_at source.place f s) _ rows h in
    guarded_over (length s.columns) source l relation f ends rows over (literal_over base s g l on) rest

comparison_kept : (base s : LinearSystem) (source : RowFrom) (guard : Guard) (g : List Rational → Bool) (relation : Relation) (f : LinearForm) (rows : List GivenRow) (p : List Rational) (a b : Rational) → IsTrue (is_row_relation relation) → IsGuarding base s guard g → AreColumns (length s.columns) f.terms
    → IsSystemPoint s p → number_at (assigned p) f ≡ minus a b → comparison_rows source guard relation f s ≡ Ok rows → KeepConstraints (assigned p) (map given_constraint rows) ↔ IsTrue (asked (g (first_numbers base p)) (related relation a b))
unfolding comparison_rows
comparison_kept base s source None g relation f rows p a b rule on over point e h =
    subst (λ (v : Bool). KeepConstraints (assigned p) (map given_constraint rows) ↔ IsTrue (asked v (related relation a b))) (sym (on (first_numbers base p)))
    (subst (λ (rs : List GivenRow). KeepConstraints (assigned p) (map given_constraint rs) ↔ IsTrue (related relation a b)) (sym (same_rows h)) (plain_kept (assigned p) source relation f a b rule e))
comparison_kept base s source (Some l) g relation f rows p a b rule on over point e h =
    let (ends, ends_are, rest) = bind_gave (ends_at source.place f s) _ rows h in
    guarded_kept (assigned p) source l relation f ends rows a b (g (first_numbers base p)) rule (between_ends source.place f s ends p over ends_are point.columns) (on.tells p point) e rest

pub compare_makes : (base : LinearSystem) (statement : ℕ) (place : Place) (relation : Relation) (left right : GTerm) → IsTrue (is_row_relation relation && is_term_over (length base.columns) left && is_term_over (length base.columns) right)
    → MakesPart base (λ p. related relation (term_number (assigned p) left) (term_number (assigned p) right)) (constraint_makes statement (GCon-F.Compare place relation left right))
compare_makes base statement place relation left right rule guard g before made is more on h =
    let parts = and_parts (is_row_relation relation && is_term_over (length base.columns) left) (is_term_over (length base.columns) right) rule in
    let others = and_parts (is_row_relation relation) (is_term_over (length base.columns) left) parts.0 in
    let source : RowFrom = from_place statement place in
    let (f, f_is, rest) = bind_gave (difference_of statement place left right before) _ made h in
    let (rows, rows_are, last) = bind_gave (comparison_rows source guard relation f.0 f.1) _ made rest in
    let l : List Rational → Rational = λ p. term_number (assigned p) left in
    let r : List Rational → Rational = λ p. term_number (assigned p) right in
    let form : FormMade base before (λ p. minus (l p) (r p)) f.0 f.1 = difference_made base before statement place left right f.0 f.1 is more others.1 parts.1 f_is in
    let on_there : IsGuarding base f.1 guard g = guarding_later base before f.1 guard g is more form.widens.extends on in
    part_behind base before f.1 made.1 g (λ p. related relation (l p) (r p)) more form.valid form.widens form.covered
    (rows_make base f.1 place rows g (λ p. related relation (l p) (r p)) made form.valid (comparison_over base f.1 source guard g relation f.0 rows on_there (record { ordered = form.ordered; columns = form.columns }) rows_are)
    (λ p point. comparison_kept base f.1 source guard g relation f.0 rows p (l (first_numbers base p)) (r (first_numbers base p)) others.0 on_there form.columns point (form.tells p point) rows_are)
    last)

-- ---- ranges

pub ranged_over : (base s : LinearSystem) (source : RowFrom) (guard : Guard) (g : List Rational → Bool) (f : LinearForm) (low high : Rational) (rows : List GivenRow) → IsGuarding base s guard g → IsOver (length s.columns) f → ranged_rows source guard f low high s ≡ Ok rows → All (IsGivenRow (length s.columns)) rows
unfolding ranged_rows
ranged_over base s source None g f low high rows on over h =
    subst (All (IsGivenRow (length s.columns))) (sym (sides_gave source f low high rows (past_gave source.place _ rows h))) (range_over (length s.columns) source f (minus low f.constant) (minus high f.constant) over)
ranged_over base s source (Some l) g f low high rows on over h =
    let (ends, ends_are, rest) = bind_gave (ends_at source.place f s) _ rows h in
    guarded_range_over (length s.columns) source l f low high ends rows over (literal_over base s g l on) rest

ranged_kept : (base s : LinearSystem) (source : RowFrom) (guard : Guard) (g : List Rational → Bool) (f : LinearForm) (low high : Rational) (rows : List GivenRow) (p : List Rational) (t : Bool) → IsGuarding base s guard g → AreColumns (length s.columns) f.terms → IsSystemPoint s p
    → (IsAtMost low (number_at (assigned p) f) × IsAtMost (number_at (assigned p) f) high) ↔ IsTrue t → ranged_rows source guard f low high s ≡ Ok rows → KeepConstraints (assigned p) (map given_constraint rows) ↔ IsTrue (asked (g (first_numbers base p)) t)
unfolding ranged_rows
ranged_kept base s source None g f low high rows p t on over point says h =
    let gave = sides_gave source f low high rows (past_gave source.place _ rows h) in
    let x = assigned p in
    let above = above_side x f low in
    let under = under_side x f high in
    let kept = both_ways (range_kept x source f (minus low f.constant) (minus high f.constant)) (both_ways (λ k. (above.0 k.0, under.0 k.1), λ k. (above.1 k.0, under.1 k.1)) says) in
    subst (λ (v : Bool). KeepConstraints x (map given_constraint rows) ↔ IsTrue (asked v t)) (sym (on (first_numbers base p)))
    (subst (λ (rs : List GivenRow). KeepConstraints x (map given_constraint rs) ↔ IsTrue t) (sym gave) kept)
ranged_kept base s source (Some l) g f low high rows p t on over point says h =
    let (ends, ends_are, rest) = bind_gave (ends_at source.place f s) _ rows h in
    guarded_range_kept (assigned p) source l f low high ends rows t (g (first_numbers base p)) (between_ends source.place f s ends p over ends_are point.columns) (on.tells p point) says rest

pub range_makes : (base : LinearSystem) (statement : ℕ) (place : Place) (relation : Relation) (first : Rational) (term : GTerm) (last : Rational) → IsTrue (is_range_relation relation && is_term_over (length base.columns) term)
    → MakesPart base (λ p. related relation first (term_number (assigned p) term) && related relation (term_number (assigned p) term) last) (constraint_makes statement (GCon-F.Range place relation first term last))
range_makes base statement place relation first term last rule guard g before made is more on h =
    let parts = and_parts (is_range_relation relation) (is_term_over (length base.columns) term) rule in
    let source : RowFrom = from_place statement place in
    let low : Rational = low_of_range relation first last in
    let high : Rational = high_of_range relation first last in
    let (f, f_is, rest) = bind_gave (makes_term statement term before) _ made h in
    let (rows, rows_are, end) = bind_gave (ranged_rows source guard f.0 low high f.1) _ made rest in
    let n : List Rational → Rational = λ p. term_number (assigned p) term in
    let truth : List Rational → Bool = λ p. related relation first (n p) && related relation (n p) last in
    let form : FormMade base before n f.0 f.1 = term_told base statement term parts.1 before is more f.0 f.1 f_is in
    let on_there : IsGuarding base f.1 guard g = guarding_later base before f.1 guard g is more form.widens.extends on in
    part_behind base before f.1 made.1 g truth more form.valid form.widens form.covered
    (rows_make base f.1 place rows g truth made form.valid (ranged_over base f.1 source guard g f.0 low high rows on_there (record { ordered = form.ordered; columns = form.columns }) rows_are)
    (λ p point.
    ranged_kept base f.1 source guard g f.0 low high rows p (truth (first_numbers base p)) on_there form.columns point
    (subst (λ (v : Rational). (IsAtMost low v × IsAtMost v high) ↔ IsTrue (truth (first_numbers base p))) (sym (form.tells p point)) (sides_say relation first last (n (first_numbers base p)) parts.0))
    rows_are)
    end)
