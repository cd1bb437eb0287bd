-- A finite end of the terms is reached where each column is at the side that counts.
use Rattle.std.proofs.Common.{ℕ, suc, pos, ◌≡◌, ◌≢◌, ◌<◌, ◌≤◌, Bool, true, false, cond, nat_eq, List, [], ◌∷◌, Option, Some, None, Ok, IsTrue, arith, refl, ap, ap₂, sym, ◌∙◌, subst}
use Rattle.std.specs.Prelude.{int_lt, IfSome}
use Rattle.std.proofs.lemmas.Bool.{eqb-true, eq-eqb}
use Rattle.zim_rational.specs.Rational.{Rational, zero, plus, times, IsAtMost}
use Rattle.zim_rational.proofs.Ring.{plus_zero, plus_assoc, zero_plus}
use Rattle.zim_rational.proofs.Order.{at_most_refl}
use Rattle.zim_linear.specs.Forms.{Term, ColumnNumbers, AreTermsFrom, AreTerms, sum_at}
use Rattle.zim_linear.specs.Ends.{sides_at, IsBetween, AreBetween, IsUncrossed, AreUncrossed, IsReached, AreEnds, counted, end_from, end_answer}
use Rattle.zim_linear.specs.declared.sides.Sides.{Sides}
use Rattle.zim_linear.specs.declared.sides.End.{End}
use Rattle.zim_linear.specs.declared.sides.End.TheVariants.{Least, Greatest}
use Rattle.zim_linear.proofs.FormLaws.{sum_at_none, sum_at_more}
use Rattle.zim_linear.proofs.RangeLaws.{HasStep, step_of, finite, ends_kept}

-- ---- the side that counts lies between the sides

low_between : (low high : Option Rational) (side : Rational) → IfSome low (λ l. IfSome high (λ h. IsAtMost l h)) → low ≡ Some side → IfSome low (λ l. IsAtMost l side) × IfSome high (λ h. IsAtMost side h)
low_between None high side un is = absurd (cc)
low_between (Some l) None side un is = let same : l ≡ side = cc in (subst (λ (s : Rational). IsAtMost l s) same (at_most_refl l), tt)
low_between (Some l) (Some h) side un is =
    let same : l ≡ side = cc in
    (subst (λ (s : Rational). IsAtMost l s) same (at_most_refl l), subst (λ (s : Rational). IsAtMost s h) same un)

high_between : (low high : Option Rational) (side : Rational) → IfSome low (λ l. IfSome high (λ h. IsAtMost l h)) → high ≡ Some side → IfSome low (λ l. IsAtMost l side) × IfSome high (λ h. IsAtMost side h)
high_between low None side un is = absurd (cc)
high_between None (Some h) side un is = let same : h ≡ side = cc in (tt, subst (λ (s : Rational). IsAtMost s h) same (at_most_refl h))
high_between (Some l) (Some h) side un is =
    let same : h ≡ side = cc in
    (subst (λ (s : Rational). IsAtMost l s) same un, subst (λ (s : Rational). IsAtMost s h) same (at_most_refl h))

counted_between : (end : End) (b : Bool) (s : Sides) (side : Rational) → IsUncrossed s → counted end b s ≡ Some side → IsBetween s side
unfolding counted
counted_between Least true s side un is = let both = high_between s.low s.high side un is in record { low = both.0; high = both.1 }
counted_between Least false s side un is = let both = low_between s.low s.high side un is in record { low = both.0; high = both.1 }
counted_between Greatest true s side un is = let both = low_between s.low s.high side un is in record { low = both.0; high = both.1 }
counted_between Greatest false s side un is = let both = high_between s.low s.high side un is in record { low = both.0; high = both.1 }

-- ---- assignments that differ at one column

-- v at column j, and elsewhere what the assignment is
at_column : ℕ → Rational → ColumnNumbers → ColumnNumbers
at_column j v x i = cond (nat_eq i j) v (x i)

there : (j : ℕ) (v : Rational) (x : ColumnNumbers) → at_column j v x j ≡ v
unfolding at_column
there j v x = ap (λ (b : Bool). cond b v (x j)) (eq-eqb j j refl)

by_test : (b : Bool) (v w : Rational) → ¬ IsTrue b → cond b v w ≡ w
by_test true v w other = absurd (other refl)
by_test false v w other = refl

elsewhere : (i j : ℕ) (v : Rational) (x : ColumnNumbers) → i ≢ j → at_column j v x i ≡ x i
unfolding at_column
elsewhere i j v x other = by_test (nat_eq i j) v (x i) (λ same. other (eqb-true i j same))

-- terms above the column don't see it
sum_above : (j n : ℕ) (v : Rational) (x : ColumnNumbers) (ts : List Term) → j < n → AreTermsFrom n ts → sum_at (at_column j v x) ts ≡ sum_at x ts
sum_above j n v x [] above terms = sum_at_none (at_column j v x) ∙ sym (sum_at_none x)
sum_above j n v x (t ∷ ts) above terms =
    let first : n ≤ t.0 = terms.0 in
    sum_at_more (at_column j v x) t ts ∙ ap₂ plus (ap (times t.1) (elsewhere t.0 j v x (λ e. omega arith))) (sum_above j (suc t.0) v x ts (omega arith) terms.2) ∙ sym (sum_at_more x t ts)

between_above : (j n : ℕ) (v : Rational) (x : ColumnNumbers) (sides : List Sides) (ts : List Term) → j < n → AreTermsFrom n ts → AreBetween x sides ts → AreBetween (at_column j v x) sides ts
between_above j n v x sides [] above terms between = tt
between_above j n v x sides (t ∷ ts) above terms between =
    let first : n ≤ t.0 = terms.0 in
    (subst (IsBetween (sides_at sides t.0)) (sym (elsewhere t.0 j v x (λ e. omega arith))) between.0, between_above j (suc t.0) v x sides ts (omega arith) terms.2 between.1)

-- ---- each column at the side that counts

reached_from : (end : End) (n : ℕ) (sides : List Sides) (ts : List Term) (sum l : Rational) → AreTermsFrom n ts → AreUncrossed sides ts → end_from end sides sum ts ≡ Ok (Some l) → (x : ColumnNumbers) × AreBetween x sides ts × (plus sum (sum_at x ts) ≡ l)
unfolding end_from
reached_from end n sides [] sum l terms un e =
    let same : sum ≡ l = cc in
    (λ i. zero, tt, ap (plus sum) (sum_at_none (λ i. zero)) ∙ plus_zero sum ∙ same)
reached_from end n sides (t ∷ ts) sum l terms un e =
    let step : HasStep end sides sum t ts l = step_of end sides sum t ts l e in
    let rest = reached_from end (suc t.0) sides ts (plus sum (times t.1 step.side)) l terms.2 un.1 step.rest in
    let x : ColumnNumbers = at_column t.0 step.side rest.0 in (
      x,
      (subst (IsBetween (sides_at sides t.0)) (sym (there t.0 step.side rest.0)) (counted_between end (int_lt t.1.numer (pos 0)) (sides_at sides t.0) step.side un.0 step.is), between_above t.0 (suc t.0) step.side rest.0 sides ts (omega arith) terms.2 rest.1),
      ap (plus sum) (sum_at_more x t ts ∙ ap₂ plus (ap (times t.1) (there t.0 step.side rest.0)) (sum_above t.0 (suc t.0) step.side rest.0 ts (omega arith) terms.2)) ∙ sym (plus_assoc sum (times t.1 step.side) (sum_at rest.0 ts)) ∙ rest.2,
    )

end_reached : (end : End) (sides : List Sides) (terms : List Term) (o : Option Rational) → AreTerms terms → AreUncrossed sides terms → end_answer end sides terms ≡ Ok o → IfSome o (IsReached sides terms)
end_reached end sides terms None ordered un e = tt
end_reached end sides terms (Some l) ordered un e =
    let found = reached_from end 0 sides terms zero l ordered un (finite end sides terms l e) in
    (found.0, found.1, sym (zero_plus (sum_at found.0 terms)) ∙ found.2)

-- the ends that are answered are the least and the greatest number
pub ends_from_answers : (sides : List Sides) (terms : List Term) (ends : Sides) → AreTerms terms → end_answer Least sides terms ≡ Ok ends.low → end_answer Greatest sides terms ≡ Ok ends.high → AreEnds sides terms ends
ends_from_answers sides terms ends ordered e f = record {
  kept = ends_kept sides terms ends e f;
  low_reached = λ un. end_reached Least sides terms ends.low ordered un e;
  high_reached = λ un. end_reached Greatest sides terms ends.high ordered un f;
}
