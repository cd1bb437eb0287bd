-- Wherever the columns lie between their sides, the terms lie between their ends.
use Rattle.std.proofs.Common.{ℤ, pos, negsuc, ◌≡◌, ◌≤◌, ◌<◌, Bool, true, false, cond, List, [], ◌∷◌, Option, Some, None, Result, Ok, Err, arith, refl, ap, sym, ◌∙◌, subst}
use Rattle.std.specs.Prelude.{int_lt, IfSome}
use borrow.Author.Differences.{up, down}
use borrow.Author.Tests.{ltb-true}
use Rattle.zim_fraction.specs.Answers.{sum_answer, product_answer}
use Rattle.zim_fraction.specs.declared.fault.Past.{Past}
use Rattle.zim_rational.specs.Rational.{Rational, zero, plus, times, IsAtMost}
use Rattle.zim_rational.proofs.Fraction.{at_most-is, own-parts, zero_fraction, fraction-is, denom-pos, IsFraction}
use Rattle.zim_rational.proofs.Ring.{plus_zero, plus_assoc, zero_plus}
use Rattle.zim_rational.proofs.Order.{at_most_refl, at_most_trans, plus_at_most, times_at_most, times_turns}
use Rattle.zim_linear.specs.Forms.{Term, ColumnNumbers, sum_at}
use Rattle.zim_linear.specs.Ends.{sides_at, IsBetween, AreBetween, counted, side_of, has_end, with_sum, at_side, end_from, end_answer}
use Rattle.zim_linear.specs.declared.sides.Sides.{Sides}
use Rattle.zim_linear.specs.declared.sides.End.{End}
use Rattle.zim_linear.specs.declared.sides.End.TheVariants.{Least, Greatest}
use Rattle.zim_linear.proofs.FormLaws.{sum_at_none, sum_at_more}
use Rattle.zim_linear.proofs.AnswerLaws.{product_value, sum_value}

-- ---- the sign of a coefficient

up_below : (n : ℤ) → int_lt n (pos 0) ≡ true → up n ≤ down n
up_below (pos a) e = let none : a < 0 = ltb-true a 0 e in absurd (omega arith)
up_below (negsuc a) e = omega arith

down_below : (n : ℤ) → int_lt n (pos 0) ≡ false → down n ≤ up n
down_below (pos a) e = omega arith
down_below (negsuc a) e = cc

zero_over : (q : Rational) → IsFraction zero 0 0 q.denom
zero_over q =
    subst (λ (z : Rational). IsFraction z 0 0 q.denom) (sym (zero_fraction q.denom (denom-pos q))) (fraction-is 0 0 q.denom (denom-pos q))

pub at_most_from_sign : (q : Rational) → int_lt q.numer (pos 0) ≡ true → IsAtMost q zero
at_most_from_sign q e =
    let le = up_below q.numer e in
    (at_most-is q zero (up q.numer) (down q.numer) 0 0 q.denom (own-parts q) (zero_over q)).1 (omega arith)

pub at_least_from_sign : (q : Rational) → int_lt q.numer (pos 0) ≡ false → IsAtMost zero q
at_least_from_sign q e =
    let le = down_below q.numer e in
    (at_most-is zero q 0 0 (up q.numer) (down q.numer) q.denom (zero_over q) (own-parts q)).1 (omega arith)

-- ---- one product

least_product : (q side v : Rational) (s : Sides) (b : Bool) → int_lt q.numer (pos 0) ≡ b → counted Least b s ≡ Some side → IsBetween s v → IsAtMost (times q side) (times q v)
unfolding counted
least_product q side v s true sign is between =
    times_turns q v side (at_most_from_sign q sign) (subst (λ (o : Option Rational). IfSome o (λ h. IsAtMost v h)) is between.high)
least_product q side v s false sign is between =
    times_at_most q side v (at_least_from_sign q sign) (subst (λ (o : Option Rational). IfSome o (λ l. IsAtMost l v)) is between.low)

greatest_product : (q side v : Rational) (s : Sides) (b : Bool) → int_lt q.numer (pos 0) ≡ b → counted Greatest b s ≡ Some side → IsBetween s v → IsAtMost (times q v) (times q side)
unfolding counted
greatest_product q side v s true sign is between =
    times_turns q side v (at_most_from_sign q sign) (subst (λ (o : Option Rational). IfSome o (λ l. IsAtMost l v)) is between.low)
greatest_product q side v s false sign is between =
    times_at_most q v side (at_least_from_sign q sign) (subst (λ (o : Option Rational). IfSome o (λ h. IsAtMost v h)) is between.high)

-- ---- one step

at_side_some : (o : Option Rational) (next : Rational → Result (Option Rational) Past) (l : Rational) → at_side o next ≡ Ok (Some l) → (side : Rational) × (o ≡ Some side) × (next side ≡ Ok (Some l))
at_side_some (Some side) next l e = (side, refl, e)
at_side_some None next l e = absurd (cc)

and_then_ok : (r : Result Rational Past) (next : Rational → Result (Option Rational) Past) (l : Rational) → with_sum r next ≡ Ok (Some l) → (q : Rational) × (Ok q ≡ r) × (next q ≡ Ok (Some l))
and_then_ok (Ok q) next l e = (q, refl, e)
and_then_ok (Err p) next l e = absurd (cc)

-- the step of a finite end: the side that counts, and the end from the next sum
pub record HasStep (end : End) (sides : List Sides) (sum : Rational) (t : Term) (ts : List Term) (l : Rational) : Type 0 where
  pub side : Rational
  pub is : side_of end sides t ≡ Some side
  pub rest : end_from end sides (plus sum (times t.1 side)) ts ≡ Ok (Some l)

pub step_of : (end : End) (sides : List Sides) (sum : Rational) (t : Term) (ts : List Term) (l : Rational) → end_from end sides sum (t ∷ ts) ≡ Ok (Some l) → HasStep end sides sum t ts l
unfolding end_from
step_of end sides sum t ts l e =
    let a = at_side_some (side_of end sides t) _ l e in
    let b = and_then_ok (product_answer t.1 a.0) _ l a.2 in
    let d = and_then_ok (sum_answer sum b.0) _ l b.2 in
    record {
      side = a.0;
      is = a.1;
      rest = subst (λ (q : Rational). end_from end sides q ts ≡ Ok (Some l)) (sum_value sum b.0 d.0 d.1 ∙ ap (plus sum) (product_value t.1 a.0 b.0 b.1)) d.2;
    }

regroup : (x : ColumnNumbers) (sum : Rational) (t : Term) (ts : List Term) → plus (plus sum (times t.1 (x t.0))) (sum_at x ts) ≡ plus sum (sum_at x (t ∷ ts))
regroup x sum t ts = plus_assoc sum (times t.1 (x t.0)) (sum_at x ts) ∙ ap (plus sum) (sym (sum_at_more x t ts))

-- ---- the whole list

above_least : (sides : List Sides) (ts : List Term) (sum l : Rational) (x : ColumnNumbers) → AreBetween x sides ts → end_from Least sides sum ts ≡ Ok (Some l) → IsAtMost l (plus sum (sum_at x ts))
unfolding end_from
above_least sides [] sum l x between e =
    let same : sum ≡ l = cc in
    subst (IsAtMost l) (sym same ∙ sym (plus_zero sum) ∙ ap (plus sum) (sym (sum_at_none x))) (at_most_refl l)
above_least sides (t ∷ ts) sum l x between e =
    let step : HasStep Least sides sum t ts l = step_of Least sides sum t ts l e in
    at_most_trans
    l
    (plus (plus sum (times t.1 step.side)) (sum_at x ts))
    (plus sum (sum_at x (t ∷ ts)))
    (above_least sides ts (plus sum (times t.1 step.side)) l x between.1 step.rest)
    (subst
    (IsAtMost (plus (plus sum (times t.1 step.side)) (sum_at x ts)))
    (regroup x sum t ts)
    (plus_at_most _ _ _ _ (plus_at_most _ _ _ _ (at_most_refl sum) (least_product t.1 step.side (x t.0) (sides_at sides t.0) (int_lt t.1.numer (pos 0)) refl step.is between.0)) (at_most_refl (sum_at x ts))))

below_greatest : (sides : List Sides) (ts : List Term) (sum l : Rational) (x : ColumnNumbers) → AreBetween x sides ts → end_from Greatest sides sum ts ≡ Ok (Some l) → IsAtMost (plus sum (sum_at x ts)) l
unfolding end_from
below_greatest sides [] sum l x between e =
    let same : sum ≡ l = cc in
    subst (λ (q : Rational). IsAtMost q l) (sym same ∙ sym (plus_zero sum) ∙ ap (plus sum) (sym (sum_at_none x))) (at_most_refl l)
below_greatest sides (t ∷ ts) sum l x between e =
    let step : HasStep Greatest sides sum t ts l = step_of Greatest sides sum t ts l e in
    at_most_trans
    (plus sum (sum_at x (t ∷ ts)))
    (plus (plus sum (times t.1 step.side)) (sum_at x ts))
    l
    (subst
    (λ (q : Rational). IsAtMost q (plus (plus sum (times t.1 step.side)) (sum_at x ts)))
    (regroup x sum t ts)
    (plus_at_most _ _ _ _ (plus_at_most _ _ _ _ (at_most_refl sum) (greatest_product t.1 step.side (x t.0) (sides_at sides t.0) (int_lt t.1.numer (pos 0)) refl step.is between.0)) (at_most_refl (sum_at x ts))))
    (below_greatest sides ts (plus sum (times t.1 step.side)) l x between.1 step.rest)

finite_by : (b : Bool) (r : Result (Option Rational) Past) (l : Rational) → cond b r (Ok None) ≡ Ok (Some l) → r ≡ Ok (Some l)
finite_by true r l e = e
finite_by false r l e = absurd (cc)

pub finite : (end : End) (sides : List Sides) (terms : List Term) (l : Rational) → end_answer end sides terms ≡ Ok (Some l) → end_from end sides zero terms ≡ Ok (Some l)
unfolding end_answer
finite end sides terms l e =
    finite_by (has_end end sides terms) (end_from end sides zero terms) l e

low_end : (sides : List Sides) (terms : List Term) (o : Option Rational) (x : ColumnNumbers) → AreBetween x sides terms → end_answer Least sides terms ≡ Ok o → IfSome o (λ l. IsAtMost l (sum_at x terms))
low_end sides terms None x between e = tt
low_end sides terms (Some l) x between e =
    subst (IsAtMost l) (zero_plus (sum_at x terms)) (above_least sides terms zero l x between (finite Least sides terms l e))

high_end : (sides : List Sides) (terms : List Term) (o : Option Rational) (x : ColumnNumbers) → AreBetween x sides terms → end_answer Greatest sides terms ≡ Ok o → IfSome o (λ h. IsAtMost (sum_at x terms) h)
high_end sides terms None x between e = tt
high_end sides terms (Some h) x between e =
    subst (λ (q : Rational). IsAtMost q h) (zero_plus (sum_at x terms)) (below_greatest sides terms zero h x between (finite Greatest sides terms h e))

-- the ends that are answered are kept
pub ends_kept : (sides : List Sides) (terms : List Term) (ends : Sides) → end_answer Least sides terms ≡ Ok ends.low → end_answer Greatest sides terms ≡ Ok ends.high → (x : ColumnNumbers) → AreBetween x sides terms → IsBetween ends (sum_at x terms)
ends_kept sides terms ends e f x between = record {
  low = low_end sides terms ends.low x between e;
  high = high_end sides terms ends.high x between f;
}
