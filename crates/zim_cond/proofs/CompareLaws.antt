-- A comparison of two numbers, by the least whole multiple of their difference.
use Rattle.std.proofs.Common.{◌≡◌, Bool, true, false, not, IsTrue, inl, inr, refl, ap, sym, ◌∙◌, subst, subst₂}
use Rattle.std.proofs.lemmas.Bool.{cases_Bool}
use Rattle.zim_rational.specs.Rational.{Rational, zero, one, minus, times, at_most, below, is_whole, IsAtMost, IsBelow}
use Rattle.zim_rational.proofs.Order.{at_most_refl, at_most_trans, at_most_antisymm, at_most_below, below_at_most, below_different, different_below, at_most_zero-one, at_most_minus, minus_at_most, at_most_times, times_at_most, plus_at_most}
use Rattle.zim_rational.proofs.Ring.{times_zero, minus_self, minus_plus, zero_plus}
use Rattle.zim_rational.proofs.Rows.{whole_gap}
use Rattle.zim_rational.proofs.Whole.{one_different, whole_is_whole}

-- two tests that follow from each other
pub one_test : (b c : Bool) → (IsTrue b → IsTrue c) → (IsTrue c → IsTrue b) → b ≡ c
one_test true true f g = refl
one_test false false f g = refl
one_test true false f g = sym (f refl)
one_test false true f g = g refl

-- k (a - b) is at least 0 exactly where b is at most a
pub difference_least : (k a b : Rational) → IsBelow zero k → at_most zero (times k (minus a b)) ≡ at_most b a
difference_least k a b some =
    one_test (at_most zero (times k (minus a b))) (at_most b a)
    (λ h. at_most_minus b a (at_most_times k zero (minus a b) some (subst (λ (q : Rational). IsAtMost q (times k (minus a b))) (sym (times_zero k)) h)))
    (λ h. subst (λ (q : Rational). IsAtMost q (times k (minus a b))) (times_zero k) (times_at_most k zero (minus a b) (below_at_most zero k some) (minus_at_most b a h)))

-- and at most 0 where a is at most b
difference_most : (k a b : Rational) → IsBelow zero k → IsAtMost (times k (minus a b)) zero → IsAtMost a b
difference_most k a b some h =
    let low : IsAtMost (minus a b) zero = at_most_times k (minus a b) zero some (subst (IsAtMost (times k (minus a b))) (sym (times_zero k)) h) in
    subst₂ IsAtMost (minus_plus a b) (zero_plus b) (plus_at_most (minus a b) zero b b low (at_most_refl b))

pub one_whole : IsTrue (is_whole one)
unfolding one
one_whole = whole_is_whole _

-- a whole k (a - b) is at least 1 exactly where b is below a
pub difference_one : (k a b : Rational) → IsBelow zero k → IsTrue (is_whole (times k (minus a b))) → at_most one (times k (minus a b)) ≡ below b a
difference_one k a b some whole =
    let t : Rational = times k (minus a b) in
    one_test (at_most one t) (below b a)
    (λ h.
    let low : IsAtMost b a = subst IsTrue (difference_least k a b some) (at_most_trans zero one t at_most_zero-one h) in
    different_below b a low
    (λ e.
    let none : t ≡ zero = ap (times k) (ap (minus a) e ∙ minus_self a) ∙ times_zero k in
    one_different (at_most_antisymm one zero (subst (IsAtMost one) none h) at_most_zero-one)))
    (λ h.
    elim (cases_Bool (at_most one t)) [
      | inl held ↦ held
      | inr gone ↦
          let gap : IsAtMost t (minus one one) = whole_gap t one whole one_whole (λ y. let e = sym y ∙ gone in cc) in
          let high : IsAtMost a b = difference_most k a b some (subst (IsAtMost t) (minus_self one) gap) in
          absurd (below_different a a (at_most_below a b a high h) refl)
    ])

-- the negations
pub not_least : (a b : Rational) → not (at_most b a) ≡ below a b
unfolding below
not_least a b = refl

not_not : (b : Bool) → not (not b) ≡ b
not_not true = refl
not_not false = refl

pub not_below : (a b : Rational) → not (below b a) ≡ at_most a b
unfolding below
not_below a b = not_not (at_most a b)
