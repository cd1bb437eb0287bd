-- Whole coefficients: the ends over whole sides are whole, and so is the number where the columns of the terms are.
use Rattle.std.proofs.Common.{ℕ, pos, ◌<◌, ◌≡◌, Bool, true, false, cond, IsTrue, List, [], ◌∷◌, Option, Some, None, ◌&&◌, Result, Ok, Err, refl, ap, ap₂, sym, ◌∙◌, subst}
use Rattle.std.specs.Prelude.{int_lt, IfSome}
use Rattle.std.specs.Option.{is_some}
use Rattle.zim_fraction.specs.Answers.{sum_answer, product_answer}
use Rattle.zim_fraction.specs.declared.fault.Past.{Past}
use Rattle.zim_rational.specs.Rational.{Rational, zero, whole, plus, times, is_whole, IsAtMost}
use Rattle.zim_rational.proofs.Whole.{whole_plus, whole_times, is_whole_whole, whole_is_whole}
use Rattle.zim_linear.specs.Forms.{Term, LinearForm, ColumnNumbers, AreTerms, sum_at, number_at}
use Rattle.zim_linear.specs.Integers.{common_multiple, AreWhole, HasWholeNumbers}
use Rattle.zim_linear.specs.Ends.{AreUncrossed, AreEnds, sides_at, counted, side_of, has_end, with_sum, at_side, end_from, end_answer, least_answer, greatest_answer}
use Rattle.zim_linear.specs.declared.sides.Sides.{Sides}
use Rattle.zim_linear.specs.declared.sides.End.{End}
use Rattle.zim_linear.specs.declared.sides.End.TheVariants.{Least, Greatest}
use Rattle.zim_linear.proofs.FormLaws.{sum_at_none, sum_at_more}
use Rattle.zim_linear.specs.Multiples.{IsMultipleOf}
use Rattle.zim_linear.proofs.WholeFormLaws as form
use Rattle.zim_linear.proofs.IntegerLemmas.{common_is_least}
use Rattle.zim_linear.proofs.ReachLemmas.{ends_from_answers}
use Rattle.zim_linear.proofs.RangeLaws.{HasStep, step_of, finite}

abbrev pub IsWholeNumber : Rational → Type 0
IsWholeNumber q = IsTrue (is_whole q)

whole_sum : (a b : Rational) → IsWholeNumber a → IsWholeNumber b → IsWholeNumber (plus a b)
whole_sum a b p q =
    subst IsWholeNumber (sym (ap₂ plus (is_whole_whole a p) (is_whole_whole b q) ∙ whole_plus a.numer b.numer)) (whole_is_whole _)

whole_product : (a b : Rational) → IsWholeNumber a → IsWholeNumber b → IsWholeNumber (times a b)
whole_product a b p q =
    subst IsWholeNumber (sym (ap₂ times (is_whole_whole a p) (is_whole_whole b q) ∙ whole_times a.numer b.numer)) (whole_is_whole _)

pub zero_is_whole : IsWholeNumber zero
unfolding zero
zero_is_whole = whole_is_whole (pos 0)

-- each column of the terms is a whole number
abbrev pub AreWholeColumns : ColumnNumbers → List Term → Type 0
AreWholeColumns x [] = Unit {0}
AreWholeColumns x (t ∷ ts) = IsWholeNumber (x t.0) × AreWholeColumns x ts

sum_whole : (x : ColumnNumbers) (ts : List Term) → AreWholeColumns x ts → AreWhole ts → IsWholeNumber (sum_at x ts)
sum_whole x [] at all = subst IsWholeNumber (sym (sum_at_none x)) zero_is_whole
sum_whole x (t ∷ ts) at all =
    subst IsWholeNumber (sym (sum_at_more x t ts)) (whole_sum _ _ (whole_product t.1 (x t.0) all.0 at.0) (sum_whole x ts at.1 all.1))

pub number_whole_at : (x : ColumnNumbers) (form : LinearForm) → AreWholeColumns x form.terms → HasWholeNumbers form → IsWholeNumber (number_at x form)
unfolding number_at
number_whole_at x form at all = whole_sum _ _ (sum_whole x form.terms at all.coefficients) all.constant

-- the sides of each column of the terms are whole numbers
abbrev pub HaveWholeSides : List Sides → List Term → Type 0
HaveWholeSides sides [] = Unit {0}
HaveWholeSides sides (t ∷ ts) = (IfSome (sides_at sides t.0).low IsWholeNumber × IfSome (sides_at sides t.0).high IsWholeNumber) × HaveWholeSides sides ts

counted_whole : (end : End) (turned : Bool) (s : Sides) (side : Rational) → IfSome s.low IsWholeNumber × IfSome s.high IsWholeNumber → counted end turned s ≡ Some side → IsWholeNumber side
unfolding counted
counted_whole Least true s side h e = subst (λ (o : Option Rational). IfSome o IsWholeNumber) e h.1
counted_whole Least false s side h e = subst (λ (o : Option Rational). IfSome o IsWholeNumber) e h.0
counted_whole Greatest true s side h e = subst (λ (o : Option Rational). IfSome o IsWholeNumber) e h.0
counted_whole Greatest false s side h e = subst (λ (o : Option Rational). IfSome o IsWholeNumber) e h.1

end_whole : (end : End) (sides : List Sides) (ts : List Term) (sum l : Rational) → IsWholeNumber sum → AreWhole ts → HaveWholeSides sides ts → end_from end sides sum ts ≡ Ok (Some l) → IsWholeNumber l
unfolding end_from
end_whole end sides [] sum l whole all have e = let same : sum ≡ l = cc in subst IsWholeNumber same whole
end_whole end sides (t ∷ ts) sum l whole all have e =
    let step : HasStep end sides sum t ts l = step_of end sides sum t ts l e in
    end_whole end sides ts (plus sum (times t.1 step.side)) l
    (whole_sum _ _ whole (whole_product t.1 step.side all.0 (counted_whole end (int_lt t.1.numer (pos 0)) (sides_at sides t.0) step.side have.0 step.is)))
    all.1 have.1 step.rest

pub least_whole : (sides : List Sides) (ts : List Term) (l : Rational) → AreWhole ts → HaveWholeSides sides ts → least_answer sides ts ≡ Ok (Some l) → IsWholeNumber l
least_whole sides ts l all have e = end_whole Least sides ts zero l zero_is_whole all have (finite Least sides ts l e)

pub greatest_whole : (sides : List Sides) (ts : List Term) (h : Rational) → AreWhole ts → HaveWholeSides sides ts → greatest_answer sides ts ≡ Ok (Some h) → IsWholeNumber h
greatest_whole sides ts h all have e = end_whole Greatest sides ts zero h zero_is_whole all have (finite Greatest sides ts h e)

-- ---- where each column has both sides, both ends are finite

-- each column of the terms has both sides
abbrev pub HaveBothSides : List Sides → List Term → Type 0
HaveBothSides sides [] = Unit {0}
HaveBothSides sides (t ∷ ts) =
    (((l : Rational) × ((sides_at sides t.0).low ≡ Some l)) × ((h : Rational) × ((sides_at sides t.0).high ≡ Some h))) × HaveBothSides sides ts

counted_some : (end : End) (turned : Bool) (s : Sides) (l h : Rational) → s.low ≡ Some l → s.high ≡ Some h → (side : Rational) × (counted end turned s ≡ Some side)
unfolding counted
counted_some Least true s l h low high = (h, high)
counted_some Least false s l h low high = (l, low)
counted_some Greatest true s l h low high = (l, low)
counted_some Greatest false s l h low high = (h, high)

at_side_none : (o : Option Rational) (next : Rational → Result (Option Rational) Past) (side : Rational) → o ≡ Some side → at_side o next ≡ Ok None → next side ≡ Ok None
at_side_none (Some v) next side e h = let same : v ≡ side = cc in subst (λ (r : Rational). next r ≡ Ok None) same h
at_side_none None next side e h = cc

and_then_none : (r : Result Rational Past) (next : Rational → Result (Option Rational) Past) → with_sum r next ≡ Ok None → (q : Rational) × (next q ≡ Ok None)
and_then_none (Ok q) next h = (q, h)
and_then_none (Err p) next h = cc

not_infinite : (end : End) (sides : List Sides) (ts : List Term) (sum : Rational) → HaveBothSides sides ts → end_from end sides sum ts ≡ Ok None → ⊥
unfolding end_from
not_infinite end sides [] sum have e = cc
not_infinite end sides (t ∷ ts) sum have e =
    let (side, is) = counted_some end (int_lt t.1.numer (pos 0)) (sides_at sides t.0) have.0.0.0 have.0.1.0 have.0.0.1 have.0.1.1 in
    let a = and_then_none (product_answer t.1 side) _ (at_side_none (side_of end sides t) _ side is e) in
    let b = and_then_none (sum_answer sum a.0) _ a.1 in
    not_infinite end sides ts b.0 have.1 b.1

all_there : (end : End) (sides : List Sides) (ts : List Term) → HaveBothSides sides ts → has_end end sides ts ≡ true
unfolding has_end
all_there end sides [] have = refl
all_there end sides (t ∷ ts) have =
    let (side, is) = counted_some end (int_lt t.1.numer (pos 0)) (sides_at sides t.0) have.0.0.0 have.0.1.0 have.0.0.1 have.0.1.1 in
    ap (λ (o : Option Rational). is_some o && has_end end sides ts) is ∙ all_there end sides ts have.1

end_finite : (end : End) (sides : List Sides) (ts : List Term) → HaveBothSides sides ts → end_answer end sides ts ≡ Ok None → ⊥
unfolding end_answer
end_finite end sides ts have e =
    not_infinite end sides ts zero have (sym (ap (λ (b : Bool). cond b (end_from end sides zero ts) (Ok None)) (all_there end sides ts have)) ∙ e)

pub least_finite : (sides : List Sides) (ts : List Term) → HaveBothSides sides ts → least_answer sides ts ≡ Ok None → ⊥
least_finite sides ts have e = end_finite Least sides ts have e

pub greatest_finite : (sides : List Sides) (ts : List Term) → HaveBothSides sides ts → greatest_answer sides ts ≡ Ok None → ⊥
greatest_finite sides ts have e = end_finite Greatest sides ts have e

-- ---- the least multiple of a form has whole numbers

pub multiple_is_whole : (a f : LinearForm) → IsMultipleOf a (whole (pos (common_multiple a))) f → HasWholeNumbers f
multiple_is_whole a f multiple = (form.least_whole a (record { form = f; k = pos (common_multiple a) }) refl multiple).numbers

-- that multiple is at least 1
pub multiple_some : (a : LinearForm) → 0 < common_multiple a
multiple_some a = (common_is_least a).positive

-- ---- the least number isn't above the greatest

pub ends_in_order : (sides : List Sides) (ts : List Term) (l h : Rational) → AreTerms ts → AreUncrossed sides ts → least_answer sides ts ≡ Ok (Some l) → greatest_answer sides ts ≡ Ok (Some h) → IsAtMost l h
ends_in_order sides ts l h ordered uncrossed least greatest =
    let ends : AreEnds sides ts (record { low = Some l; high = Some h }) = ends_from_answers sides ts (record { low = Some l; high = Some h }) ordered least greatest in
    let (x, between, same) = ends.low_reached uncrossed in
    subst (λ (v : Rational). IsAtMost v h) same (ends.kept x between).high
