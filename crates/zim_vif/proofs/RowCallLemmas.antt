-- What the calls for rows make is what the rows are.
use Rattle.std.proofs.Common.{ℕ, ◌≡◌, ◌<◌, Bool, true, false, if◌then◌else◌, List, [], ◌∷◌, map, Some, None, Result, Ok, Err, IfOk, arith, refl, ap, ap₂, sym, ◌∙◌, subst}
use Rattle.std.specs.declared.cmp.Ordering.{Ordering}
use Rattle.std.specs.Ordering.{MatchOrdering}
use Rattle.std.proofs.lemmas.Bool.{cond-true, cond-false, false_from_ne_true}
use Rattle.zim_answer.specs.Answer.{◌>>=◌}
use Rattle.zim_answer.specs.Gives.{Gives, Stops}
use Rattle.zim_answer.proofs.GivesLemmas.{Stops-bind}
use Rattle.zim_fault.specs.declared.faults.Fault.{Fault}
use Rattle.zim_fault.specs.declared.memory.Memory.{Memory}
use Rattle.zim_fault.specs.declared.tokens.Relation.{Relation}
use Rattle.zim_fault.specs.declared.tokens.Relation.TheVariants.{LessThan, AtMost, EqualTo, NotEqualTo, AtLeast, GreaterThan}
use Rattle.zim_fraction.specs.Answers.{difference_answer}
use Rattle.zim_fraction.specs.declared.fault.Past.{Past}
use Rattle.zim_rational.specs.Rational.{Rational, zero, one, plus, minus, negate, times, below, same, IsBelow, rational_cmp}
use Rattle.zim_rational.proofs.Compare.{rational_cmp-match}
use Rattle.zim_rational.proofs.Order.{below_at_most, at_most_below, below_different}
use Rattle.zim_rational.proofs.Whole.{same_Decides}
use Rattle.zim_rational.proofs.Ring.{plus_zero, zero_plus, plus_comm, minus_is, minus_plus, negate_minus, negate_zero, times_minus, times_one, one_times, zero_times, negate_times}
use Rattle.zim_linear.specs.Forms.{LinearForm, form_of, number_at}
use Rattle.zim_linear.specs.declared.faults.LinFault.TheVariants as form_refusal
use Rattle.zim_linear.specs.declared.sides.Sides.{Sides}
use Rattle.zim_linear.proofs.UniqueLaws.{one_form}
use Rattle.zim_forms.specs.Exact.{Exact, ◌⊟◌, of_two}
use Rattle.zim_forms.specs.Algebra.{◌⊕◌, ◌⊖◌, ◌⊙◌, known, the, form_sum}
use Rattle.zim_forms.proofs.AlgebraLaws.{number_sum, number_multiple, number_known, number_the, number_difference}
use Rattle.zim_forms.proofs.MultipleLaws.{sum_is}
use Rattle.zim_forms.proofs.OverLaws.{IsOver, over_sum, over_difference, over_multiple, over_the, over_known}
use Rattle.zim_rows.specs.declared.rows.GivenRow.{GivenRow}
use Rattle.zim_rows.specs.declared.rows.RowFrom.{RowFrom}
use Rattle.zim_rows.specs.declared.rows.RowKind.TheVariants.{One, Range}
use Rattle.zim_rows.specs.declared.rows.Sense.TheVariants as sense
use Rattle.zim_rows.specs.declared.rows.Sense.{Sense}
use Rattle.zim_rows.specs.declared.steps.NewRow.{NewRow}
use Rattle.zim_rows.specs.declared.faults.EncodeFault.{EncodeFault}
use Rattle.zim_rows.specs.Steps.{given_row, encode_cause}
use Rattle.zim_rows.specs.System.{LinearSystem, row_of}
use Rattle.zim_logic_rows.specs.declared.Literal.{Literal}
use Rattle.zim_logic_rows.specs.Guards.{under_both}
use Rattle.zim_logic_rows.specs.LogicRows.{compared_row, past_at}
use Rattle.zim_logic_rows.specs.Steps.{past_refused}
use Rattle.zim_logic_rows.proofs.RefusalLaws.{past_stops}
use Rattle.zim_logic_rows.specs.Literals.{literal_form, is}
use Rattle.zim_vif.specs.declared.rows.Limits.{Limits}
use Rattle.zim_vif.specs.Constraints.{Guard, terms_of, plain_rows, guarded_rows, ends_at, comparison_rows, range_rows, sides_less, guarded_range, ranged_rows}
use Rattle.zim_vif.specs.RowSteps.{row_at_end, rows_at_end}

-- ---- a share of a literal

over_number : (b : ℕ) (q r : Rational) → 0 < b → IsOver b (known q ⊕ r ⊙ the b)
over_number b q r some = over_sum b (known q) (r ⊙ the b) (over_known b q) (over_multiple b r (the b) (over_the b b some (omega arith)))

column_share : (b : ℕ) (q : Rational) → 0 < b → known zero ⊕ q ⊙ the b ≡ q ⊙ the b
column_share b q some =
    one_form (known zero ⊕ q ⊙ the b) (q ⊙ the b) (over_number b zero q some).ordered (over_multiple b q (the b) (over_the b b some (omega arith))).ordered
    (λ x. number_sum x (known zero) (q ⊙ the b) ∙ ap (λ (r : Rational). plus r (number_at x (q ⊙ the b))) (number_known x zero) ∙ zero_plus (number_at x (q ⊙ the b)))

-- q (1 - v) is q - q v
less_share : (q v : Rational) → plus q (times (negate q) v) ≡ times q (minus one v)
less_share q v = ap (plus q) (negate_times q v) ∙ sym (minus_is q (times q v)) ∙ ap (λ (r : Rational). minus r (times q v)) (sym (times_one q)) ∙ sym (times_minus q one v)

turned_share : (b : ℕ) (q : Rational) → 0 < b → known q ⊕ negate q ⊙ the b ≡ q ⊙ (known one ⊖ the b)
turned_share b q some =
    let one_column : IsOver b (the b) = over_the b b some (omega arith) in
    one_form (known q ⊕ negate q ⊙ the b) (q ⊙ (known one ⊖ the b)) (over_number b q (negate q) some).ordered (over_multiple b q (known one ⊖ the b) (over_difference b (known one) (the b) (over_known b one) one_column)).ordered
    (λ x.
    number_sum x (known q) (negate q ⊙ the b)
    ∙ ap₂ plus (number_known x q) (number_multiple x (negate q) (the b) ∙ ap (times (negate q)) (number_the x b))
    ∙ less_share q (x b)
    ∙ sym (number_multiple x q (known one ⊖ the b) ∙ ap (times q) (number_difference x (known one) (the b) ∙ ap₂ minus (number_known x one) (number_the x b))))

pub positive_share : (l : Literal) (q z : Rational) (nought : LinearForm) (r : Result LinearForm Memory) → 0 < l.column → l.positive ≡ true → z ≡ zero → nought ≡ form_of [] z → IfOk r (λ form. form ≡ nought ⊕ q ⊙ the l.column) → IfOk r (λ form. form ≡ q ⊙ is l)
positive_share l q z nought (Ok form) some flag ze e made =
    made
    ∙ ap (λ (f : LinearForm). f ⊕ q ⊙ the l.column) (e ∙ ap (form_of []) ze)
    ∙ column_share l.column q some
    ∙ ap (λ (b : Bool). q ⊙ literal_form l.column b) (sym flag)
positive_share l q z nought (Err refused) some flag ze e made = tt

pub negative_share : (l : Literal) (q turned : Rational) (whole : LinearForm) (r : Result LinearForm Memory) → 0 < l.column → l.positive ≡ false → turned ≡ negate q → whole ≡ form_of [] q → IfOk r (λ form. form ≡ whole ⊕ turned ⊙ the l.column) → IfOk r (λ form. form ≡ q ⊙ is l)
negative_share l q turned whole (Ok form) some flag re e made =
    made
    ∙ ap₂ (λ (f : LinearForm) (s : Rational). f ⊕ s ⊙ the l.column) e re
    ∙ turned_share l.column q some
    ∙ ap (λ (b : Bool). q ⊙ literal_form l.column b) (sym flag)
negative_share l q turned whole (Err refused) some flag re e made = tt

-- ---- a row

nought_constant : (b : ℕ) (flag : Bool) (c : LinearForm) (end v slack : Rational) → c.constant ≡ zero → slack ≡ minus end v → (if flag then end else v) ≡ plus end (negate (c ⊕ slack ⊙ literal_form b flag).constant)
nought_constant b true c end v slack none e =
    sym (ap (λ (r : Rational). plus end (negate r)) (ap (λ (r : Rational). plus r (times zero slack)) none ∙ zero_plus (times zero slack) ∙ zero_times slack) ∙ ap (plus end) negate_zero ∙ plus_zero end)
nought_constant b false c end v slack none e =
    let whole : plus one (negate zero) ≡ one = ap (plus one) negate_zero ∙ plus_zero one in
    sym (
    ap (λ (r : Rational). plus end (negate r)) (ap (λ (r : Rational). plus r (times (plus one (negate zero)) slack)) none ∙ zero_plus (times (plus one (negate zero)) slack) ∙ ap (λ (r : Rational). times r slack) whole ∙ one_times slack ∙ e)
    ∙ ap (plus end) (negate_minus end v)
    ∙ plus_comm end (minus v end)
    ∙ minus_plus v end
    )

-- the right side of the row that a form and a share of a literal make
pub right_is : (l : Literal) (c form : LinearForm) (end v slack right : Rational) → c.constant ≡ zero → slack ≡ minus end v → form ≡ c ⊕ slack ⊙ is l → right ≡ (if l.positive then end else v) → right ≡ plus end (negate form.constant)
right_is l c form end v slack right none e f r =
    r ∙ nought_constant l.column l.positive c end v slack none e ∙ ap (λ (g : LinearForm). plus end (negate g.constant)) (sym f)

abbrev with_slack : RowFrom → LinearForm → Literal → Sense → Rational → Rational → Result GivenRow Past
with_slack source c l sense end slack = form_sum c (slack ⊙ is l) >>= λ f. Ok (compared_row source f sense end)

pub row_gives : (source : RowFrom) (c share form : LinearForm) (l : Literal) (sense : Sense) (v end slack right : Rational) (row : GivenRow) → c.constant ≡ zero → difference_answer end v ≡ Ok slack → slack ≡ minus end v → share ≡ slack ⊙ is l → form_sum c share ≡ Ok form
    → right ≡ (if l.positive then end else v) → row ≡ row_of source form.terms (One sense right) → row_at_end source c l sense v end ≡ Ok row
row_gives source c share form l sense v end slack right row none h exact e made r is_row =
    let summed : form_sum c (slack ⊙ is l) ≡ Ok form = ap (form_sum c) (sym e) ∙ made in
    ap (λ (a : Result Rational Past). a >>= with_slack source c l sense end) h
    ∙ ap (λ (a : Result LinearForm Past). a >>= λ f. Ok (compared_row source f sense end)) summed
    ∙ ap (λ (q : Rational). Ok (row_of source form.terms (One sense q))) (sym (right_is l c form end v slack right none exact (sum_is c (slack ⊙ is l) form summed) r))
    ∙ ap Ok (sym is_row)

-- ---- rows without a guard

pub compared_told : (source : RowFrom) (f : LinearForm) (sense : Sense) (right : Rational) (row : GivenRow) (r : Result (List NewRow) Memory) → right ≡ negate f.constant → row ≡ row_of source f.terms (One sense right) → IfOk r (λ rows. map given_row rows ≡ row ∷ []) → IfOk r (λ rows. map given_row rows ≡ compared_row source f sense zero ∷ [])
compared_told source f sense right row (Ok rows) e is_row h =
    h ∙ ap (λ (g : GivenRow). g ∷ []) (is_row ∙ ap (λ (q : Rational). row_of source f.terms (One sense q)) (e ∙ sym (zero_plus (negate f.constant))))
compared_told source f sense right row (Err refused) e is_row h = tt

-- ---- ranges without a guard

-- what the order of two numbers says
pub ordered_as : (a b : Rational) (o p : Ordering) → o ≡ rational_cmp a b → o ≡ p → MatchOrdering p (IsBelow a b) (a ≡ b) (IsBelow b a)
ordered_as a b o p e is = subst (λ (q : Ordering). MatchOrdering q (IsBelow a b) (a ≡ b) (IsBelow b a)) (sym e ∙ is) (rational_cmp-match a b)

not_below_itself : (a b : Rational) → a ≡ b → below a b ≡ false
not_below_itself a b e = false_from_ne_true (below a b) (λ t. below_different a b t e)

not_below_less : (a b : Rational) → IsBelow b a → below a b ≡ false
not_below_less a b h = false_from_ne_true (below a b) (λ t. below_different a a (at_most_below a b a (below_at_most a b t) h) refl)

not_same_less : (a b : Rational) → IsBelow b a → same a b ≡ false
not_same_less a b h = false_from_ne_true (same a b) (λ t. below_different b a h (sym ((same_Decides a b).0 t)))

less_rows : (source : RowFrom) (f : LinearForm) (l h : Rational) → IsBelow l h → range_rows source f l h ≡ row_of source f.terms (Range l h) ∷ []
unfolding range_rows
less_rows source f l h k = cond-true (below l h) _ _ k

equal_row : (source : RowFrom) (f : LinearForm) (l h : Rational) → l ≡ h → range_rows source f l h ≡ row_of source f.terms (One sense.Equal l) ∷ []
unfolding range_rows
equal_row source f l h e = cond-false (below l h) _ _ (not_below_itself l h e) ∙ cond-true (same l h) _ _ ((same_Decides l h).1 e)

crossed_rows : (source : RowFrom) (f : LinearForm) (l h : Rational) → IsBelow h l → range_rows source f l h ≡ row_of source f.terms (One sense.AtLeast l) ∷ row_of source f.terms (One sense.AtMost h) ∷ []
unfolding range_rows
crossed_rows source f l h k = cond-false (below l h) _ _ (not_below_less l h k) ∙ cond-false (same l h) _ _ (not_same_less l h k)

pub less_told : (source : RowFrom) (f : LinearForm) (l h : Rational) (row : GivenRow) (r : Result (List NewRow) Memory) → IsBelow l h → row ≡ row_of source f.terms (Range l h) → IfOk r (λ rows. map given_row rows ≡ row ∷ []) → IfOk r (λ rows. map given_row rows ≡ range_rows source f l h)
less_told source f l h row (Ok rows) k e made = made ∙ ap (λ (g : GivenRow). g ∷ []) e ∙ sym (less_rows source f l h k)
less_told source f l h row (Err refused) k e made = tt

pub equal_told : (source : RowFrom) (f : LinearForm) (l h : Rational) (row : GivenRow) (r : Result (List NewRow) Memory) → l ≡ h → row ≡ row_of source f.terms (One sense.Equal l) → IfOk r (λ rows. map given_row rows ≡ row ∷ []) → IfOk r (λ rows. map given_row rows ≡ range_rows source f l h)
equal_told source f l h row (Ok rows) k e made = made ∙ ap (λ (g : GivenRow). g ∷ []) e ∙ sym (equal_row source f l h k)
equal_told source f l h row (Err refused) k e made = tt

pub crossed_told : (source : RowFrom) (f : LinearForm) (l h : Rational) (above under : GivenRow) (r : Result (List NewRow) Memory) → IsBelow h l → above ≡ row_of source f.terms (One sense.AtLeast l) → under ≡ row_of source f.terms (One sense.AtMost h)
    → IfOk r (λ rows. map given_row rows ≡ above ∷ under ∷ []) → IfOk r (λ rows. map given_row rows ≡ range_rows source f l h)
crossed_told source f l h above under (Ok rows) k e d made = made ∙ ap₂ (λ (g k : GivenRow). g ∷ k ∷ []) e d ∙ sym (crossed_rows source f l h k)
crossed_told source f l h above under (Err refused) k e d made = tt

-- ---- by the relation

pub chosen_first : (flag : Bool) (a b r : Rational) → flag ≡ true → r ≡ a → r ≡ (if flag then a else b)
chosen_first flag a b r e is = is ∙ ap (λ (f : Bool). if f then a else b) (sym e)

pub chosen_second : (flag : Bool) (a b r : Rational) → flag ≡ false → r ≡ b → r ≡ (if flag then a else b)
chosen_second flag a b r e is = is ∙ ap (λ (f : Bool). if f then a else b) (sym e)

abbrev Rows : Type 0
Rows = Result (List NewRow) EncodeFault

abbrev Given : Result (List GivenRow) Fault → Rows → Type 0
Given answer r = Gives (λ (rows : List NewRow). map given_row rows) encode_cause answer r

pub plain_told : (source : RowFrom) (relation : Relation) (f : LinearForm) (rows : List GivenRow) (r : Result (List NewRow) Memory) → rows ≡ plain_rows source relation f → IfOk r (λ made. map given_row made ≡ rows) → IfOk r (λ made. map given_row made ≡ plain_rows source relation f)
plain_told source relation f rows (Ok made) e h = h ∙ e
plain_told source relation f rows (Err refused) e h = tt

pub plain_most : (source : RowFrom) (relation : Relation) (f : LinearForm) → relation ≡ AtMost → compared_row source f sense.AtMost zero ∷ [] ≡ plain_rows source relation f
unfolding plain_rows
plain_most source relation f e = ap (λ (r : Relation). plain_rows source r f) (sym e)

pub plain_least : (source : RowFrom) (relation : Relation) (f : LinearForm) → relation ≡ AtLeast → compared_row source f sense.AtLeast zero ∷ [] ≡ plain_rows source relation f
unfolding plain_rows
plain_least source relation f e = ap (λ (r : Relation). plain_rows source r f) (sym e)

pub plain_equal : (source : RowFrom) (relation : Relation) (f : LinearForm) → relation ≡ EqualTo → compared_row source f sense.Equal zero ∷ [] ≡ plain_rows source relation f
unfolding plain_rows
plain_equal source relation f e = ap (λ (r : Relation). plain_rows source r f) (sym e)

-- a relation that makes no row
pub data MakesNone : Relation → Type 0 where
  ByLess : MakesNone LessThan
  ByUnequal : MakesNone NotEqualTo
  ByGreater : MakesNone GreaterThan

plain_none_of : (source : RowFrom) (relation : Relation) (f : LinearForm) → MakesNone relation → [] ≡ plain_rows source relation f
unfolding plain_rows
plain_none_of source AtMost f x = elim x [ ]
plain_none_of source EqualTo f x = elim x [ ]
plain_none_of source AtLeast f x = elim x [ ]
plain_none_of source LessThan f ByLess = refl
plain_none_of source NotEqualTo f ByUnequal = refl
plain_none_of source GreaterThan f ByGreater = refl

pub plain_none : (source : RowFrom) (relation other : Relation) (f : LinearForm) (rows : List NewRow) → MakesNone other → relation ≡ other → rows ≡ [] → map given_row rows ≡ plain_rows source relation f
plain_none source relation other f rows none e is =
    ap (map given_row) is ∙ plain_none_of source other f none ∙ ap (λ (r : Relation). plain_rows source r f) (sym e)

guarded_none_of : (source : RowFrom) (l : Literal) (relation : Relation) (f : LinearForm) (ends : Sides) → MakesNone relation → guarded_rows source l relation f ends ≡ Ok []
unfolding guarded_rows
guarded_none_of source l AtMost f ends x = elim x [ ]
guarded_none_of source l EqualTo f ends x = elim x [ ]
guarded_none_of source l AtLeast f ends x = elim x [ ]
guarded_none_of source l LessThan f ends ByLess = refl
guarded_none_of source l NotEqualTo f ends ByUnequal = refl
guarded_none_of source l GreaterThan f ends ByGreater = refl

pub guarded_none : (source : RowFrom) (l : Literal) (relation other : Relation) (f : LinearForm) (ends : Sides) (rows : List NewRow) → MakesNone other → relation ≡ other → rows ≡ [] → guarded_rows source l relation f ends ≡ Ok (map given_row rows)
guarded_none source l relation other f ends rows none e is =
    ap (λ (r : Relation). guarded_rows source l r f ends) e ∙ guarded_none_of source l other f ends none ∙ ap Ok (ap (map given_row) (sym is))

pub guarded_most : (source : RowFrom) (l : Literal) (relation : Relation) (f c : LinearForm) (v : Rational) (ends : Sides) (r : Rows) → c ≡ terms_of f → v ≡ negate f.constant → relation ≡ AtMost → Given (rows_at_end source c l sense.AtMost v ends.high) r → Given (guarded_rows source l relation f ends) r
unfolding guarded_rows
guarded_most source l relation f c v ends r e d is h =
    subst (λ (k : Relation). Given (guarded_rows source l k f ends) r) (sym is)
    (subst (λ (g : LinearForm). Given (rows_at_end source g l sense.AtMost (negate f.constant) ends.high) r) e (subst (λ (q : Rational). Given (rows_at_end source c l sense.AtMost q ends.high) r) d h))

pub guarded_least : (source : RowFrom) (l : Literal) (relation : Relation) (f c : LinearForm) (v : Rational) (ends : Sides) (r : Rows) → c ≡ terms_of f → v ≡ negate f.constant → relation ≡ AtLeast → Given (rows_at_end source c l sense.AtLeast v ends.low) r → Given (guarded_rows source l relation f ends) r
unfolding guarded_rows
guarded_least source l relation f c v ends r e d is h =
    subst (λ (k : Relation). Given (guarded_rows source l k f ends) r) (sym is)
    (subst (λ (g : LinearForm). Given (rows_at_end source g l sense.AtLeast (negate f.constant) ends.low) r) e (subst (λ (q : Rational). Given (rows_at_end source c l sense.AtLeast q ends.low) r) d h))

pub guarded_equal : (source : RowFrom) (l : Literal) (relation : Relation) (f c : LinearForm) (v : Rational) (ends : Sides) (r : Rows) → c ≡ terms_of f → v ≡ negate f.constant → relation ≡ EqualTo → Given (under_both source c l v v ends) r → Given (guarded_rows source l relation f ends) r
unfolding guarded_rows
guarded_equal source l relation f c v ends r e d is h =
    subst (λ (k : Relation). Given (guarded_rows source l k f ends) r) (sym is)
    (subst (λ (g : LinearForm). Given (under_both source g l (negate f.constant) (negate f.constant) ends) r) e (subst (λ (q : Rational). Given (under_both source c l q q ends) r) d h))

-- ---- by the guard

pub plain_gives : (source : RowFrom) (guard : Guard) (relation : Relation) (f : LinearForm) (rows : List GivenRow) (s : LinearSystem) → guard ≡ None → rows ≡ plain_rows source relation f → comparison_rows source guard relation f s ≡ Ok rows
unfolding comparison_rows
plain_gives source guard relation f rows s e is = ap (λ (g : Guard). comparison_rows source g relation f s) e ∙ ap Ok (sym is)

pub guarded_stops : (source : RowFrom) (guard : Guard) (l : Literal) (relation : Relation) (f : LinearForm) (s : LinearSystem) (refused : EncodeFault) → guard ≡ Some l → Stops (ends_at source.place f s) (encode_cause refused) → Stops (comparison_rows source guard relation f s) (encode_cause refused)
unfolding comparison_rows
guarded_stops source guard l relation f s refused e h =
    subst (λ (g : Guard). Stops (comparison_rows source g relation f s) (encode_cause refused)) (sym e)
    (Stops-bind (ends_at source.place f s) (λ ends. guarded_rows source l relation f ends) (encode_cause refused) h)

pub guarded_told : (source : RowFrom) (guard : Guard) (l : Literal) (relation : Relation) (f : LinearForm) (ends : Sides) (s : LinearSystem) (r : Rows) → guard ≡ Some l → ends_at source.place f s ≡ Ok ends → Given (guarded_rows source l relation f ends) r → Given (comparison_rows source guard relation f s) r
unfolding comparison_rows
guarded_told source guard l relation f ends s r e h told =
    subst (λ (g : Guard). Given (comparison_rows source g relation f s) r) (sym e)
    (subst (λ (a : Result (List GivenRow) Fault). Given a r) (sym (ap (λ (a : Result Sides Fault). a >>= λ found. guarded_rows source l relation f found) h)) told)

two_gave : (a b : Exact) (other : Rational → Rational → List GivenRow) (m : Limits) → of_two a b (λ l h. record { low = l; high = h }) ≡ Ok m → of_two a b other ≡ Ok (other m.low m.high)
two_gave (Ok l) (Ok h) other m e = let same : ◌≡◌ {A = Limits} (record { low = l; high = h }) m = cc in ap (λ (n : Limits). Ok (other n.low n.high)) same
two_gave (Ok l) (Err past) other m e = cc
two_gave (Err past) b other m e = cc

two_failed : (a b : Exact) (other : Rational → Rational → List GivenRow) (past : Past) → ◌≡◌ {A = Result Limits Past} (of_two a b (λ l h. record { low = l; high = h })) (Err past) → of_two a b other ≡ Err past
two_failed (Ok l) (Ok h) other past e = cc
two_failed (Ok l) (Err p) other past e = cc
two_failed (Err p) b other past e = cc

pub range_gives : (source : RowFrom) (guard : Guard) (f : LinearForm) (low high : Rational) (limits : Limits) (rows : List GivenRow) (s : LinearSystem) → guard ≡ None → sides_less f low high (λ l h. record { low = l; high = h }) ≡ Ok limits → rows ≡ range_rows source f limits.low limits.high → ranged_rows source guard f low high s ≡ Ok rows
unfolding ranged_rows
range_gives source guard f low high limits rows s e h is =
    ap (λ (g : Guard). ranged_rows source g f low high s) e
    ∙ ap (past_at source.place) (two_gave (Ok low ⊟ Ok f.constant) (Ok high ⊟ Ok f.constant) (range_rows source f) limits h)
    ∙ ap Ok (sym is)

pub range_past : (source : RowFrom) (guard : Guard) (f : LinearForm) (low high : Rational) (past : Past) (s : LinearSystem) (refused : EncodeFault) → guard ≡ None → refused ≡ past_refused source.place form_refusal.Past → ◌≡◌ {A = Result Limits Past} (sides_less f low high (λ l h. record { low = l; high = h })) (Err past)
    → Stops (ranged_rows source guard f low high s) (encode_cause refused)
unfolding ranged_rows
range_past source guard f low high past s refused e r h =
    let failed : ranged_rows source guard f low high s ≡ past_at source.place (Err past) =
    ap (λ (g : Guard). ranged_rows source g f low high s) e ∙ ap (past_at source.place) (two_failed (Ok low ⊟ Ok f.constant) (Ok high ⊟ Ok f.constant) (range_rows source f) past h) in
    subst (λ (a : Result (List GivenRow) Fault). Stops a (encode_cause refused)) (sym failed) (past_stops source.place (Err past) form_refusal.Past refused r refl)

pub range_stops : (source : RowFrom) (guard : Guard) (l : Literal) (f : LinearForm) (low high : Rational) (s : LinearSystem) (refused : EncodeFault) → guard ≡ Some l → Stops (ends_at source.place f s) (encode_cause refused) → Stops (ranged_rows source guard f low high s) (encode_cause refused)
unfolding ranged_rows
range_stops source guard l f low high s refused e h =
    subst (λ (g : Guard). Stops (ranged_rows source g f low high s) (encode_cause refused)) (sym e)
    (Stops-bind (ends_at source.place f s) (λ ends. guarded_range source l f low high ends) (encode_cause refused) h)

pub range_told : (source : RowFrom) (guard : Guard) (l : Literal) (f : LinearForm) (low high : Rational) (ends : Sides) (s : LinearSystem) (r : Rows) → guard ≡ Some l → ends_at source.place f s ≡ Ok ends → Given (guarded_range source l f low high ends) r → Given (ranged_rows source guard f low high s) r
unfolding ranged_rows
range_told source guard l f low high ends s r e h told =
    subst (λ (g : Guard). Given (ranged_rows source g f low high s) r) (sym e)
    (subst (λ (a : Result (List GivenRow) Fault). Given a r) (sym (ap (λ (a : Result Sides Fault). a >>= λ found. guarded_range source l f low high found) h)) told)
