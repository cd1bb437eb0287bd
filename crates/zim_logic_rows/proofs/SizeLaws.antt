-- The numbers of an absolute value: the share of a multiple, the constants of its rows, and the sides of its column.
use Rattle.std.proofs.Common.{pos, neg_ℤ, ◌≡◌, inl, inr, IsTrue, IsFalse, ap, ap₂, sym, ◌∙◌, subst}
use Rattle.std.proofs.lemmas.Bool.{cases_Bool, cond-true, cond-false}
use Rattle.zim_rational.specs.Rational.{Rational, zero, one, whole, plus, negate, times, at_most, is_whole, IsAtMost}
use Rattle.zim_rational.specs.Rounding.{absolute, larger}
use Rattle.zim_rational.proofs.Order.{at_most_trans, at_most_turned, at_most_antisymm, negate_at_most, plus_at_most, times_at_most, larger_left, larger_right}
use Rattle.zim_rational.proofs.Ring.{negate_zero, negate_times, plus_times, one_times, times_zero, times_assoc, times_comm}
use Rattle.zim_rational.proofs.Whole.{whole_plus, whole_negate, whole_is_whole, is_whole_whole}

absolute_up : (t : Rational) → IsAtMost zero t → absolute t ≡ t
unfolding absolute
absolute_up t h = cond-true (at_most zero t) t (negate t) h

absolute_below : (t : Rational) → IsFalse (at_most zero t) → absolute t ≡ negate t
unfolding absolute
absolute_below t e = cond-false (at_most zero t) t (negate t) e

absolute_down : (t : Rational) → IsAtMost t zero → absolute t ≡ negate t
absolute_down t h =
    elim (cases_Bool (at_most zero t)) [
      | inl up ↦ let none : t ≡ zero = at_most_antisymm t zero h up in absolute_up t up ∙ none ∙ sym (ap negate none ∙ negate_zero)
      | inr down ↦ absolute_below t down
    ]

-- a share of a multiple without its sign is the number without its sign
pub share_absolute : (k share v : Rational) → IsAtMost zero k → times share k ≡ one → times share (absolute (times k v)) ≡ absolute v
share_absolute k share v some unit =
    let back : (w : Rational) → times share (times k w) ≡ w = λ w. sym (times_assoc share k w) ∙ ap (λ (q : Rational). times q w) unit ∙ one_times w in
    elim (cases_Bool (at_most zero v)) [
      | inl up ↦
          let more : IsAtMost zero (times k v) = subst (λ (z : Rational). IsAtMost z (times k v)) (times_zero k) (times_at_most k zero v some up) in
          ap (times share) (absolute_up (times k v) more) ∙ back v ∙ sym (absolute_up v up)
      | inr down ↦
          let under : IsAtMost v zero = at_most_turned zero v down in
          let less : IsAtMost (times k v) zero = subst (IsAtMost (times k v)) (times_zero k) (times_at_most k v zero some under) in
          ap (times share) (absolute_down (times k v) less)
          ∙ times_comm share (negate (times k v)) ∙ negate_times (times k v) share ∙ ap negate (times_comm (times k v) share ∙ back v)
          ∙ sym (absolute_down v under)
    ]

two_is : whole (pos 2) ≡ plus one one
unfolding one
two_is = sym (whole_plus (pos 1) (pos 1))

pub twice : (a : Rational) → times (whole (pos 2)) a ≡ plus a a
twice a = ap (λ (k : Rational). times k a) two_is ∙ plus_times one one a ∙ ap₂ plus (one_times a) (one_times a)

pub minus_twice : (a : Rational) → times (whole (neg_ℤ (pos 2))) a ≡ negate (plus a a)
minus_twice a = ap (λ (k : Rational). times k a) (sym (whole_negate (pos 2))) ∙ negate_times (whole (pos 2)) a ∙ ap negate (twice a)

-- the constants of the rows are large enough
pub large_low : (t low : Rational) → IsAtMost low t → IsAtMost (negate (plus t t)) (larger zero (times (whole (neg_ℤ (pos 2))) low))
large_low t low above =
    at_most_trans _ (times (whole (neg_ℤ (pos 2))) low) _
    (subst (IsAtMost (negate (plus t t))) (sym (minus_twice low)) (negate_at_most (plus low low) (plus t t) (plus_at_most low t low t above above)))
    (larger_right zero (times (whole (neg_ℤ (pos 2))) low))

pub large_high : (t high : Rational) → IsAtMost t high → IsAtMost (plus t t) (larger zero (times (whole (pos 2)) high))
large_high t high under =
    at_most_trans _ (times (whole (pos 2)) high) _
    (subst (IsAtMost (plus t t)) (sym (twice high)) (plus_at_most t high t high under under))
    (larger_right zero (times (whole (pos 2)) high))

-- the larger of -low and high isn't below 0
pub size_from_zero : (low high : Rational) → IsAtMost low high → IsAtMost zero (larger (negate low) high)
size_from_zero low high ends =
    elim (cases_Bool (at_most zero low)) [
      | inl up ↦ at_most_trans zero high _ (at_most_trans zero low high up ends) (larger_right (negate low) high)
      | inr down ↦
          at_most_trans zero (negate low) _
          (subst (λ (z : Rational). IsAtMost z (negate low)) negate_zero (negate_at_most low zero (at_most_turned zero low down)))
          (larger_left (negate low) high)
    ]

pub larger_whole : (a b : Rational) → IsTrue (is_whole a) → IsTrue (is_whole b) → IsTrue (is_whole (larger a b))
unfolding larger
larger_whole a b p q =
    elim (cases_Bool (at_most a b)) [
      | inl t ↦ subst (λ (n : Rational). IsTrue (is_whole n)) (sym (cond-true (at_most a b) b a t)) q
      | inr f ↦ subst (λ (n : Rational). IsTrue (is_whole n)) (sym (cond-false (at_most a b) b a f)) p
    ]

pub negated_whole : (a : Rational) → IsTrue (is_whole a) → IsTrue (is_whole (negate a))
negated_whole a p =
    subst (λ (n : Rational). IsTrue (is_whole n)) (sym (ap negate (is_whole_whole a p) ∙ whole_negate a.numer)) (whole_is_whole _)
