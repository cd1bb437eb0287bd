-- The rows of a comparison and of a range under a guard, and what they say at a point.
use Rattle.std.proofs.Common.{ℕ, ◌≡◌, ◌↔◌, Bool, IsTrue, IfSome, List, [], ◌∷◌, map, Option, Some, None, Result, Ok, All, refl, sym, ◌∙◌, subst}
use Rattle.std.proofs.lemmas.List.Elements.{All-cons, All-nil}
use Rattle.zim_answer.specs.Answer.{◌>>=◌}
use Rattle.zim_answer.proofs.BindLemmas.{bind_gave}
use Rattle.zim_fault.specs.declared.faults.Fault.{Fault}
use Rattle.zim_fault.specs.declared.faults.Place.{Place}
use Rattle.zim_fault.specs.declared.tokens.Relation.{Relation}
use Rattle.zim_fault.specs.declared.tokens.Relation.TheVariants.{LessThan, AtMost, EqualTo, NotEqualTo, AtLeast, GreaterThan}
use Rattle.zim_rational.specs.Rational.{Rational, zero, one, minus, negate, at_most, same, IsAtMost, IsBinary}
use Rattle.zim_rational.proofs.Order.{at_most_antisymm, at_most_refl}
use Rattle.zim_rational.proofs.Ring.{plus_zero, zero_plus, minus_is}
use Rattle.zim_fraction.specs.Answers.{difference_answer}
use Rattle.zim_fraction.specs.declared.fault.Past.{Past}
use Rattle.zim_linear.specs.Forms.{LinearForm, ColumnNumbers, sum_at, number_at}
use Rattle.zim_linear.specs.Ends.{IsBetween}
use Rattle.zim_linear.specs.declared.sides.Sides.{Sides}
use Rattle.zim_formula.specs.Ground.{related}
use Rattle.zim_formula.specs.GroundRules.{is_row_relation}
use Rattle.zim_forms.specs.Exact.{◌⊟◌}
use Rattle.zim_forms.specs.Algebra.{◌⊙◌, form_sum}
use Rattle.zim_forms.proofs.MultipleLaws.{sum_is}
use Rattle.zim_forms.proofs.OverLaws.{IsOver, over_sum, over_multiple}
use Rattle.zim_rows.specs.declared.rows.GivenRow.{GivenRow}
use Rattle.zim_rows.specs.declared.rows.RowFrom.{RowFrom}
use Rattle.zim_rows.specs.declared.rows.Sense.TheVariants as sense
use Rattle.zim_rows.specs.System.{IsGivenRow}
use Rattle.zim_rows.specs.Points.{KeepConstraints, given_constraint}
use Rattle.zim_logic_rows.specs.declared.Literal.{Literal}
use Rattle.zim_logic_rows.specs.LogicRows.{compared_row}
use Rattle.zim_logic_rows.specs.Literals.{is, number_of}
use Rattle.zim_logic_rows.specs.Guards.{needed_end, under_most, under_least}
use Rattle.zim_logic_rows.proofs.BinaryLaws.{number_binary, number_one}
use Rattle.zim_logic_rows.proofs.GuardedLaws.{guarded_most_kept, guarded_least_kept}
use Rattle.zim_logic_rows.proofs.TruthLaws.{exact_minus}
use Rattle.zim_logic_rows.proofs.ValidLaws.{row_is}
use Rattle.zim_vabs.proofs.RangedLaws.{past_gave}
use Rattle.zim_vif.specs.Constraints.{terms_of, guarded_rows, guarded_range}
use Rattle.zim_vif.proofs.GuardLaws.{asked, asked_says}
use Rattle.zim_vif.proofs.RowLaws.{both_ways, most_says, least_says, equal_says, above_side, under_side}

-- ---- what was answered

pub needed_gave : {A : Type 0} (place : Place) (end : Option Rational) (next : Rational → Result A Fault) (made : A) → needed_end place end next ≡ Ok made → (e : Rational) × (end ≡ Some e) × (next e ≡ Ok made)
needed_gave place None next made h = cc
needed_gave place (Some e) next made h = (e, refl, h)

-- the rows `>=` and `<=` of numbers that were computed
pub record BothGave (source : RowFrom) (c : LinearForm) (l : Literal) (v w least greatest : Rational) (rows : List GivenRow) : Type 0 where
  pub first : GivenRow
  pub second : GivenRow
  pub first_is : under_least source c l v least ≡ Ok first
  pub second_is : under_most source c l w greatest ≡ Ok second
  pub rows_are : rows ≡ first ∷ second ∷ []

pub both_gave : (source : RowFrom) (c : LinearForm) (l : Literal) (v w least greatest : Rational) (rows : List GivenRow)
    → (under_least source c l v least >>= λ first. under_most source c l w greatest >>= λ second. Ok (first ∷ second ∷ [])) ≡ Ok rows → BothGave source c l v w least greatest rows
both_gave source c l v w least greatest rows h =
    let (first, first_is, rest) = bind_gave (under_least source c l v least) _ rows h in
    let (second, second_is, last) = bind_gave (under_most source c l w greatest) _ rows rest in
    record { first = first; second = second; first_is = first_is; second_is = second_is; rows_are = same_rows last } where
      same_rows : {a b : List GivenRow} → ◌≡◌ {A = Result (List GivenRow) Past} (Ok a) (Ok b) → b ≡ a
      same_rows h = cc

one_gave : {row : GivenRow} {rows : List GivenRow} → ◌≡◌ {A = Result (List GivenRow) Past} (Ok (row ∷ [])) (Ok rows) → rows ≡ row ∷ []
one_gave h = cc

-- ---- over the columns

most_over : (n : ℕ) (source : RowFrom) (c : LinearForm) (l : Literal) (v high : Rational) (row : GivenRow) → IsOver n c → IsOver n (is l) → under_most source c l v high ≡ Ok row → IsGivenRow n row
most_over n source c l v high row over guard h =
    let (slack, slack_is, rest) = bind_gave (difference_answer high v) _ row h in
    let (f, f_is, last) = bind_gave (form_sum c (slack ⊙ is l)) _ row rest in
    let e : compared_row source f sense.AtMost high ≡ row = cc in
    subst (IsGivenRow n) e (row_is n source f sense.AtMost high (subst (IsOver n) (sym (sum_is c (slack ⊙ is l) f f_is)) (over_sum n c (slack ⊙ is l) over (over_multiple n slack (is l) guard))))

least_over : (n : ℕ) (source : RowFrom) (c : LinearForm) (l : Literal) (v low : Rational) (row : GivenRow) → IsOver n c → IsOver n (is l) → under_least source c l v low ≡ Ok row → IsGivenRow n row
least_over n source c l v low row over guard h =
    let (slack, slack_is, rest) = bind_gave (difference_answer low v) _ row h in
    let (f, f_is, last) = bind_gave (form_sum c (slack ⊙ is l)) _ row rest in
    let e : compared_row source f sense.AtLeast low ≡ row = cc in
    subst (IsGivenRow n) e (row_is n source f sense.AtLeast low (subst (IsOver n) (sym (sum_is c (slack ⊙ is l) f f_is)) (over_sum n c (slack ⊙ is l) over (over_multiple n slack (is l) guard))))

both_over : (n : ℕ) (source : RowFrom) (c : LinearForm) (l : Literal) (v w least greatest : Rational) (rows : List GivenRow) → IsOver n c → IsOver n (is l) → BothGave source c l v w least greatest rows → All (IsGivenRow n) rows
both_over n source c l v w least greatest rows over guard both =
    subst (All (IsGivenRow n)) (sym both.rows_are)
    (All-cons (IsGivenRow n) both.first (both.second ∷ []) (least_over n source c l v least both.first over guard both.first_is)
    (All-cons (IsGivenRow n) both.second [] (most_over n source c l w greatest both.second over guard both.second_is) (All-nil (IsGivenRow n))))

pub terms_over : (n : ℕ) (f : LinearForm) → IsOver n f → IsOver n (terms_of f)
terms_over n f over = record { ordered = over.ordered; columns = over.columns }

one_over : (n : ℕ) (row : GivenRow) (rows : List GivenRow) → rows ≡ row ∷ [] → IsGivenRow n row → All (IsGivenRow n) rows
one_over n row rows e over = subst (All (IsGivenRow n)) (sym e) (All-cons (IsGivenRow n) row [] over (All-nil (IsGivenRow n)))

none_over : (n : ℕ) (rows : List GivenRow) → ◌≡◌ {A = Result (List GivenRow) Fault} (Ok []) (Ok rows) → All (IsGivenRow n) rows
none_over n rows h = let e : [] ≡ rows = cc in subst (All (IsGivenRow n)) e (All-nil (IsGivenRow n))

pub guarded_over : (n : ℕ) (source : RowFrom) (l : Literal) (relation : Relation) (f : LinearForm) (ends : Sides) (rows : List GivenRow) → IsOver n f → IsOver n (is l) → guarded_rows source l relation f ends ≡ Ok rows → All (IsGivenRow n) rows
unfolding guarded_rows
guarded_over n source l AtMost f ends rows over guard h =
    let (high, high_is, kept) = needed_gave source.place ends.high _ rows h in
    let (row, row_is, last) = bind_gave (under_most source (terms_of f) l (negate f.constant) high) _ rows (past_gave source.place _ rows kept) in
    one_over n row rows (one_gave last) (most_over n source (terms_of f) l (negate f.constant) high row (terms_over n f over) guard row_is)
guarded_over n source l AtLeast f ends rows over guard h =
    let (low, low_is, kept) = needed_gave source.place ends.low _ rows h in
    let (row, row_is, last) = bind_gave (under_least source (terms_of f) l (negate f.constant) low) _ rows (past_gave source.place _ rows kept) in
    one_over n row rows (one_gave last) (least_over n source (terms_of f) l (negate f.constant) low row (terms_over n f over) guard row_is)
guarded_over n source l EqualTo f ends rows over guard h =
    let v : Rational = negate f.constant in
    let (least, least_is, more) = needed_gave source.place ends.low _ rows h in
    let (greatest, greatest_is, kept) = needed_gave source.place ends.high _ rows more in
    both_over n source (terms_of f) l v v least greatest rows (terms_over n f over) guard (both_gave source (terms_of f) l v v least greatest rows (past_gave source.place _ rows kept))
guarded_over n source l LessThan f ends rows over guard h = none_over n rows h
guarded_over n source l NotEqualTo f ends rows over guard h = none_over n rows h
guarded_over n source l GreaterThan f ends rows over guard h = none_over n rows h

-- ---- at a point

-- what is asked where a literal is 1, which is a truth
guard_asks : (lit : Rational) (v t : Bool) (P : Type 0) → lit ≡ number_of v → P ↔ IsTrue t → (lit ≡ one → P) ↔ IsTrue (asked v t)
guard_asks lit v t P e says =
    let one_is = number_one v in
    both_ways
    (λ h on. says.0 (h (e ∙ one_is.1 on)), λ h on. says.1 (h (one_is.0 (sym e ∙ on))))
    (asked_says v t)

literal_two : (lit : Rational) (v : Bool) → lit ≡ number_of v → IsBinary lit
literal_two lit v e = subst IsBinary (sym e) (number_binary v)

-- the terms alone
terms_number : (x : ColumnNumbers) (f : LinearForm) → number_at x (terms_of f) ≡ sum_at x f.terms
unfolding number_at
terms_number x f = plus_zero (sum_at x f.terms)

at_most_end : (x : ColumnNumbers) (f : LinearForm) (ends : Sides) (high : Rational) → IsBetween ends (sum_at x f.terms) → ends.high ≡ Some high → IsAtMost (number_at x (terms_of f)) high
at_most_end x f ends high between e =
    subst (λ (r : Rational). IsAtMost r high) (sym (terms_number x f)) (subst (λ (o : Option Rational). IfSome o (λ (q : Rational). IsAtMost (sum_at x f.terms) q)) e between.high)

at_least_end : (x : ColumnNumbers) (f : LinearForm) (ends : Sides) (low : Rational) → IsBetween ends (sum_at x f.terms) → ends.low ≡ Some low → IsAtMost low (number_at x (terms_of f))
at_least_end x f ends low between e =
    subst (IsAtMost low) (sym (terms_number x f)) (subst (λ (o : Option Rational). IfSome o (λ (q : Rational). IsAtMost q (sum_at x f.terms))) e between.low)

-- the terms against a number, and against a side from which the constant is taken
terms_under : (x : ColumnNumbers) (f : LinearForm) (v side : Rational) → v ≡ minus side f.constant → IsAtMost (number_at x (terms_of f)) v ↔ IsAtMost (number_at x f) side
terms_under x f v side e =
    let says = under_side x f side in (
      λ h. says.0 (subst (IsAtMost (sum_at x f.terms)) e (subst (λ (r : Rational). IsAtMost r v) (terms_number x f) h)),
      λ h. subst (λ (r : Rational). IsAtMost r v) (sym (terms_number x f)) (subst (IsAtMost (sum_at x f.terms)) (sym e) (says.1 h)),
    )

terms_above : (x : ColumnNumbers) (f : LinearForm) (v side : Rational) → v ≡ minus side f.constant → IsAtMost v (number_at x (terms_of f)) ↔ IsAtMost side (number_at x f)
terms_above x f v side e =
    let says = above_side x f side in (
      λ h. says.0 (subst (λ (r : Rational). IsAtMost r (sum_at x f.terms)) e (subst (IsAtMost v) (terms_number x f) h)),
      λ h. subst (IsAtMost v) (sym (terms_number x f)) (subst (λ (r : Rational). IsAtMost r (sum_at x f.terms)) (sym e) (says.1 h)),
    )

nought_less : (k : Rational) → negate k ≡ minus zero k
nought_less k = sym (minus_zero_is k) where
  minus_zero_is : (k : Rational) → minus zero k ≡ negate k
  minus_zero_is k = minus_is zero k ∙ zero_plus (negate k)

-- two rows that are asked under a literal
both_kept : (x : ColumnNumbers) (source : RowFrom) (c : LinearForm) (l : Literal) (v w least greatest : Rational) (rows : List GivenRow) → BothGave source c l v w least greatest rows → IsBinary (number_at x (is l)) → IsAtMost least (number_at x c) → IsAtMost (number_at x c) greatest
    → KeepConstraints x (map given_constraint rows) ↔ (number_at x (is l) ≡ one → IsAtMost v (number_at x c) × IsAtMost (number_at x c) w)
both_kept x source c l v w least greatest rows both two above under =
    let first = guarded_least_kept x source c l v least both.first both.first_is two above in
    let second = guarded_most_kept x source c l w greatest both.second both.second_is two under in
    subst (λ (rs : List GivenRow). KeepConstraints x (map given_constraint rs) ↔ (number_at x (is l) ≡ one → IsAtMost v (number_at x c) × IsAtMost (number_at x c) w)) (sym both.rows_are) (
      λ k on. (first.0 (k.0, tt) on, second.0 (k.1.0, tt) on),
      λ h. ((first.1 (λ on. (h on).0)).0, ((second.1 (λ on. (h on).1)).0, tt)),
    )

-- a form that lies between 0 and 0 is 0
equal_zero : (n a b : Rational) → n ≡ minus a b → (IsAtMost zero n × IsAtMost n zero) ↔ IsTrue (same a b)
equal_zero n a b e =
    both_ways
    (λ h. at_most_antisymm n zero h.1 h.0, λ h. (subst (IsAtMost zero) (sym h) (at_most_refl zero), subst (λ (r : Rational). IsAtMost r zero) (sym h) (at_most_refl zero)))
    (equal_says n a b e)

pub guarded_kept : (x : ColumnNumbers) (source : RowFrom) (l : Literal) (relation : Relation) (f : LinearForm) (ends : Sides) (rows : List GivenRow) (a b : Rational) (v : Bool) → IsTrue (is_row_relation relation) → IsBetween ends (sum_at x f.terms) → number_at x (is l) ≡ number_of v
    → number_at x f ≡ minus a b → guarded_rows source l relation f ends ≡ Ok rows → KeepConstraints x (map given_constraint rows) ↔ IsTrue (asked v (related relation a b))
unfolding guarded_rows related is_row_relation
guarded_kept x source l AtMost f ends rows a b v rule between lit e h =
    let side : Rational = negate f.constant in
    let (high, high_is, kept) = needed_gave source.place ends.high _ rows h in
    let (row, row_is, last) = bind_gave (under_most source (terms_of f) l side high) _ rows (past_gave source.place _ rows kept) in
    let says = guarded_most_kept x source (terms_of f) l side high row row_is (literal_two (number_at x (is l)) v lit) (at_most_end x f ends high between high_is) in
    let asks = guard_asks (number_at x (is l)) v (at_most a b) (IsAtMost (number_at x (terms_of f)) side) lit (both_ways (terms_under x f side zero (nought_less f.constant)) (most_says (number_at x f) a b e)) in
    subst (λ (rs : List GivenRow). KeepConstraints x (map given_constraint rs) ↔ IsTrue (asked v (at_most a b))) (sym (one_gave last)) (both_ways says asks)
guarded_kept x source l AtLeast f ends rows a b v rule between lit e h =
    let side : Rational = negate f.constant in
    let (low, low_is, kept) = needed_gave source.place ends.low _ rows h in
    let (row, row_is, last) = bind_gave (under_least source (terms_of f) l side low) _ rows (past_gave source.place _ rows kept) in
    let says = guarded_least_kept x source (terms_of f) l side low row row_is (literal_two (number_at x (is l)) v lit) (at_least_end x f ends low between low_is) in
    let asks = guard_asks (number_at x (is l)) v (at_most b a) (IsAtMost side (number_at x (terms_of f))) lit (both_ways (terms_above x f side zero (nought_less f.constant)) (least_says (number_at x f) a b e)) in
    subst (λ (rs : List GivenRow). KeepConstraints x (map given_constraint rs) ↔ IsTrue (asked v (at_most b a))) (sym (one_gave last)) (both_ways says asks)
guarded_kept x source l EqualTo f ends rows a b v rule between lit e h =
    let side : Rational = negate f.constant in
    let (least, least_is, more) = needed_gave source.place ends.low _ rows h in
    let (greatest, greatest_is, kept) = needed_gave source.place ends.high _ rows more in
    let both = both_gave source (terms_of f) l side side least greatest rows (past_gave source.place _ rows kept) in
    let says = both_kept x source (terms_of f) l side side least greatest rows both (literal_two (number_at x (is l)) v lit) (at_least_end x f ends least between least_is) (at_most_end x f ends greatest between greatest_is) in
    let above = terms_above x f side zero (nought_less f.constant) in
    let under = terms_under x f side zero (nought_less f.constant) in
    let asks =
    guard_asks (number_at x (is l)) v (same a b) (IsAtMost side (number_at x (terms_of f)) × IsAtMost (number_at x (terms_of f)) side) lit
    (both_ways (λ k. (above.0 k.0, under.0 k.1), λ k. (above.1 k.0, under.1 k.1)) (equal_zero (number_at x f) a b e)) in
    both_ways says asks
guarded_kept x source l LessThan f ends rows a b v rule between lit e h = cc
guarded_kept x source l NotEqualTo f ends rows a b v rule between lit e h = cc
guarded_kept x source l GreaterThan f ends rows a b v rule between lit e h = cc

-- ---- ranges

-- the rows of a range under a guard, with the numbers that were computed
pub record RangeGave (source : RowFrom) (l : Literal) (f : LinearForm) (low high : Rational) (ends : Sides) (rows : List GivenRow) : Type 0 where
  pub least : Rational
  pub greatest : Rational
  pub least_is : ends.low ≡ Some least
  pub greatest_is : ends.high ≡ Some greatest
  pub both : BothGave source (terms_of f) l (minus low f.constant) (minus high f.constant) least greatest rows

pub range_gave : (source : RowFrom) (l : Literal) (f : LinearForm) (low high : Rational) (ends : Sides) (rows : List GivenRow) → guarded_range source l f low high ends ≡ Ok rows → RangeGave source l f low high ends rows
range_gave source l f low high ends rows h =
    let (least, least_is, more) = needed_gave source.place ends.low _ rows h in
    let (greatest, greatest_is, kept) = needed_gave source.place ends.high _ rows more in
    let (v, v_is, next) = bind_gave (Ok low ⊟ Ok f.constant) _ rows (past_gave source.place _ rows kept) in
    let (w, w_is, last) = bind_gave (Ok high ⊟ Ok f.constant) _ rows next in
    record {
      least = least;
      greatest = greatest;
      least_is = least_is;
      greatest_is = greatest_is;
      both =
          subst (λ (r : Rational). BothGave source (terms_of f) l r (minus high f.constant) least greatest rows) (exact_minus low f.constant v v_is)
          (subst (λ (r : Rational). BothGave source (terms_of f) l v r least greatest rows) (exact_minus high f.constant w w_is) (both_gave source (terms_of f) l v w least greatest rows last));
    }

pub guarded_range_over : (n : ℕ) (source : RowFrom) (l : Literal) (f : LinearForm) (low high : Rational) (ends : Sides) (rows : List GivenRow) → IsOver n f → IsOver n (is l) → guarded_range source l f low high ends ≡ Ok rows → All (IsGivenRow n) rows
guarded_range_over n source l f low high ends rows over guard h =
    let gave = range_gave source l f low high ends rows h in
    both_over n source (terms_of f) l (minus low f.constant) (minus high f.constant) gave.least gave.greatest rows (terms_over n f over) guard gave.both

pub guarded_range_kept : (x : ColumnNumbers) (source : RowFrom) (l : Literal) (f : LinearForm) (low high : Rational) (ends : Sides) (rows : List GivenRow) (t v : Bool) → IsBetween ends (sum_at x f.terms) → number_at x (is l) ≡ number_of v
    → (IsAtMost low (number_at x f) × IsAtMost (number_at x f) high) ↔ IsTrue t → guarded_range source l f low high ends ≡ Ok rows → KeepConstraints x (map given_constraint rows) ↔ IsTrue (asked v t)
guarded_range_kept x source l f low high ends rows t v between lit says h =
    let gave = range_gave source l f low high ends rows h in
    let low_side : Rational = minus low f.constant in
    let high_side : Rational = minus high f.constant in
    let kept = both_kept x source (terms_of f) l low_side high_side gave.least gave.greatest rows gave.both (literal_two (number_at x (is l)) v lit) (at_least_end x f ends gave.least between gave.least_is) (at_most_end x f ends gave.greatest between gave.greatest_is) in
    let above = terms_above x f low_side low refl in
    let under = terms_under x f high_side high refl in
    both_ways kept
    (guard_asks (number_at x (is l)) v t (IsAtMost low_side (number_at x (terms_of f)) × IsAtMost (number_at x (terms_of f)) high_side) lit
    (both_ways (λ k. (above.0 k.0, under.0 k.1), λ k. (above.1 k.0, under.1 k.1)) says))
