-- The column of an ask takes the numbers that are asked for.
use Rattle.std.proofs.Common.{◌≡◌, ◌↔◌, Bool, true, false, ◌||◌, IsTrue, IsFalse, IfSome, refl, sym, subst, true≢false}
use Rattle.zim_rational.specs.Rational.{Rational, IsAtMost, IsBelow, is_whole}
use Rattle.zim_rational.specs.Rounding.{floor, ceil}
use Rattle.zim_rational.proofs.Order.{at_most_trans, at_most_below, below_different}
use Rattle.zim_rational.proofs.Rounding.{floor_at_most, whole_at_most_floor, at_most_ceil, ceil_at_most_whole}
use Rattle.zim_rational.proofs.Whole.{is_whole_whole}
use Rattle.zim_rows.specs.Points.{KeepsColumn}
use Rattle.zim_columns.specs.declared.asks.Ask.{Ask}
use Rattle.zim_columns.specs.declared.asks.Bound.{Bound}
use Rattle.zim_columns.specs.declared.asks.Bound.TheVariants.{Minus, Plus, At}
use Rattle.zim_columns.specs.declared.asks.VarKind.{VarKind}
use Rattle.zim_columns.specs.declared.asks.VarKind.TheVariants.{Real, Integer, Binary}
use Rattle.zim_columns.specs.Bounds.{takes_whole, KeepsLower, KeepsUpper, IsAsked, raised, lowered, low_side, high_side, sides_of, column_asked, are_crossed, is_infinity, is_minus_infinity, bounds_cross}

-- a whole number is at least a number exactly where it is at least its ceiling, and the same for the floor
from_ceil : (q v : Rational) → IsAtMost (ceil q) v → IsAtMost q v
from_ceil q v h = at_most_trans q (ceil q) v (at_most_ceil q) h

to_ceil : (q v : Rational) → IsTrue (is_whole v) → IsAtMost q v → IsAtMost (ceil q) v
to_ceil q v w h =
    let e = is_whole_whole v w in
    subst (IsAtMost (ceil q)) (sym e) (ceil_at_most_whole q v.numer (subst (IsAtMost q) e h))

from_floor : (q v : Rational) → IsAtMost v (floor q) → IsAtMost v q
from_floor q v h = at_most_trans v (floor q) q h (floor_at_most q)

to_floor : (q v : Rational) → IsTrue (is_whole v) → IsAtMost v q → IsAtMost v (floor q)
to_floor q v w h =
    let e = is_whole_whole v w in
    subst (λ (u : Rational). IsAtMost u (floor q)) (sym e) (whole_at_most_floor v.numer q (subst (λ (u : Rational). IsAtMost u q) e h))

raised_keeps : (kind : VarKind) (q v : Rational) → (IsTrue (takes_whole kind) → IsTrue (is_whole v)) → IsAtMost q v ↔ IsAtMost (raised kind q) v
raised_keeps Real q v w = (λ h. h, λ h. h)
raised_keeps Integer q v w = (to_ceil q v (w refl), from_ceil q v)
raised_keeps Binary q v w = (to_ceil q v (w refl), from_ceil q v)

lowered_keeps : (kind : VarKind) (q v : Rational) → (IsTrue (takes_whole kind) → IsTrue (is_whole v)) → IsAtMost v q ↔ IsAtMost v (lowered kind q)
lowered_keeps Real q v w = (λ h. h, λ h. h)
lowered_keeps Integer q v w = (to_floor q v (w refl), from_floor q v)
lowered_keeps Binary q v w = (to_floor q v (w refl), from_floor q v)

low_keeps : (kind : VarKind) (bound : Bound) (v : Rational) → (IsTrue (takes_whole kind) → IsTrue (is_whole v)) → IsFalse (is_infinity bound) → KeepsLower bound v ↔ IfSome (low_side kind bound) (λ l. IsAtMost l v)
low_keeps kind Minus v w h = (λ k. tt, λ k. tt)
low_keeps kind Plus v w h = absurd (true≢false h)
low_keeps kind (At q) v w h = raised_keeps kind q v w

high_keeps : (kind : VarKind) (bound : Bound) (v : Rational) → (IsTrue (takes_whole kind) → IsTrue (is_whole v)) → IsFalse (is_minus_infinity bound) → KeepsUpper bound v ↔ IfSome (high_side kind bound) (λ u. IsAtMost v u)
high_keeps kind Minus v w h = absurd (true≢false h)
high_keeps kind Plus v w h = (λ k. tt, λ k. tt)
high_keeps kind (At q) v w h = lowered_keeps kind q v w

-- the first of three is false where one of them is, and so on
pub none_of : (a b c : Bool) → IsFalse (a || b || c) → IsFalse a × IsFalse b × IsFalse c
none_of true b c h = absurd (true≢false h)
none_of false true c h = absurd (true≢false h)
none_of false false c h = (refl, refl, h)

pub asked_kept : (ask : Ask) (v : Rational) → IsFalse (bounds_cross ask) → IsAsked ask v ↔ KeepsColumn (column_asked ask) v
asked_kept ask v h =
    let parts = none_of (is_infinity ask.lower) (is_minus_infinity ask.upper) (are_crossed (sides_of ask.kind ask.lower ask.upper)) h in (
      λ asked. record {
        between = record {
          low = (low_keeps ask.kind ask.lower v asked.whole parts.0).0 asked.lower;
          high = (high_keeps ask.kind ask.upper v asked.whole parts.1).0 asked.upper;
        };
        whole = asked.whole;
      },
      λ kept. record {
        lower = (low_keeps ask.kind ask.lower v kept.whole parts.0).1 kept.between.low;
        upper = (high_keeps ask.kind ask.upper v kept.whole parts.1).1 kept.between.high;
        whole = kept.whole;
      },
    )

-- a number between crossed sides would be above itself
apart : (low high v : Rational) → IsBelow high low → IsAtMost low v → IsAtMost v high → ⊥
apart low high v crossed from to =
    below_different low low (at_most_below low high low (at_most_trans low v high from to) crossed) refl

no_lower : (bound : Bound) (v : Rational) → IsTrue (is_infinity bound) → KeepsLower bound v → ⊥
no_lower Minus v h k = absurd (true≢false (sym h))
no_lower Plus v h k = k
no_lower (At q) v h k = absurd (true≢false (sym h))

no_upper : (bound : Bound) (v : Rational) → IsTrue (is_minus_infinity bound) → KeepsUpper bound v → ⊥
no_upper Minus v h k = k
no_upper Plus v h k = absurd (true≢false (sym h))
no_upper (At q) v h k = absurd (true≢false (sym h))

none_between : (kind : VarKind) (lower upper : Bound) (v : Rational) → (IsTrue (takes_whole kind) → IsTrue (is_whole v)) → IsTrue (are_crossed (sides_of kind lower upper)) → KeepsLower lower v → KeepsUpper upper v → ⊥
none_between kind Minus upper v w crossed from to = absurd (true≢false (sym crossed))
none_between kind Plus upper v w crossed from to = from
none_between kind (At l) Minus v w crossed from to = to
none_between kind (At l) Plus v w crossed from to = absurd (true≢false (sym crossed))
none_between kind (At l) (At u) v w crossed from to =
    apart (raised kind l) (lowered kind u) v crossed ((raised_keeps kind l v w).0 from) ((lowered_keeps kind u v w).0 to)

pub none_asked : (ask : Ask) (v : Rational) → IsTrue (bounds_cross ask) → ¬ IsAsked ask v
none_asked ask v h asked = split (is_infinity ask.lower) (is_minus_infinity ask.upper) refl refl h
  where
    split : (a b : Bool) → is_infinity ask.lower ≡ a → is_minus_infinity ask.upper ≡ b → IsTrue (a || b || are_crossed (sides_of ask.kind ask.lower ask.upper)) → ⊥
    split true b p q k = no_lower ask.lower v p asked.lower
    split false true p q k = no_upper ask.upper v q asked.upper
    split false false p q k = none_between ask.kind ask.lower ask.upper v asked.whole k asked.lower asked.upper
