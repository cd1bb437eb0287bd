-- How two numbers are ordered, by their signs and the products across.
use Rattle.std.proofs.Common.{ℕ, ℤ, pos, negsuc, ◌≡◌, ◌*◌, true, false, unsigned_abs, arith, refl, sym, ap, ap₂, ◌∙◌, nat_cmp, int_cmp, Ordering, Less, Greater, le-ltb}
use Rattle.std.specs.Prelude.{int_lt}
use Rattle.zim_rational.specs.Rational.{Rational, rational_cmp}
use Rattle.zim_rational.proofs.Compare.{rational_cmp-numers, cmp_negative-positive, cmp_positive-negative, cmp_positive, cmp_negative}

-- a whole number below 0, and one from 0 up
below_zero : (n : ℤ) → int_lt n (pos 0) ≡ true → (m : ℕ) × (n ≡ negsuc m)
below_zero (pos n) t = let never = sym t ∙ le-ltb n 0 (omega arith) in cc
below_zero (negsuc m) t = (m, refl)

from_zero : (n : ℤ) → int_lt n (pos 0) ≡ false → (m : ℕ) × (n ≡ pos m)
from_zero (pos m) t = (m, refl)
from_zero (negsuc m) t = cc

pub over_one_denom : (a b : Rational) (r : Ordering) (x y : ℤ) (c d : ℕ) → x ≡ a.numer → y ≡ b.numer → c ≡ a.denom → d ≡ b.denom → c ≡ d → r ≡ int_cmp x y → r ≡ rational_cmp a b
over_one_denom a b r x y c d first second e f same is =
    is ∙ ap₂ int_cmp first second ∙ sym (rational_cmp-numers a b (sym e ∙ same ∙ f))

pub first_below : (a b : Rational) (x y : ℤ) → x ≡ a.numer → y ≡ b.numer → int_lt x (pos 0) ≡ true → int_lt y (pos 0) ≡ false → Less ≡ rational_cmp a b
first_below a b x y first second t f =
    let m = below_zero x t in
    let n = from_zero y f in
    sym (cmp_negative-positive a b m.0 n.0 (sym first ∙ m.1) (sym second ∙ n.1))

pub first_above : (a b : Rational) (x y : ℤ) → x ≡ a.numer → y ≡ b.numer → int_lt x (pos 0) ≡ false → int_lt y (pos 0) ≡ true → Greater ≡ rational_cmp a b
first_above a b x y first second f t =
    let m = from_zero x f in
    let n = below_zero y t in
    sym (cmp_positive-negative a b m.0 n.0 (sym first ∙ m.1) (sym second ∙ n.1))

pub both_above : (a b : Rational) (r : Ordering) (x y : ℤ) (c d p q : ℕ) → x ≡ a.numer → y ≡ b.numer → c ≡ a.denom → d ≡ b.denom → p ≡ unsigned_abs x → q ≡ unsigned_abs y → int_lt x (pos 0) ≡ false → int_lt y (pos 0) ≡ false → r ≡ nat_cmp (p * d) (q * c) → r ≡ rational_cmp a b
both_above a b r x y c d p q first second e f size other u v is =
    let m = from_zero x u in
    let n = from_zero y v in
    is ∙ ap₂ nat_cmp (ap₂ (λ i j. i * j) (size ∙ ap unsigned_abs m.1) f) (ap₂ (λ i j. i * j) (other ∙ ap unsigned_abs n.1) e) ∙ sym (cmp_positive a b m.0 n.0 (sym first ∙ m.1) (sym second ∙ n.1))

pub both_below : (a b : Rational) (r : Ordering) (x y : ℤ) (c d p q : ℕ) → x ≡ a.numer → y ≡ b.numer → c ≡ a.denom → d ≡ b.denom → p ≡ unsigned_abs x → q ≡ unsigned_abs y → int_lt x (pos 0) ≡ true → int_lt y (pos 0) ≡ true → r ≡ nat_cmp (q * c) (p * d) → r ≡ rational_cmp a b
both_below a b r x y c d p q first second e f size other u v is =
    let m = below_zero x u in
    let n = below_zero y v in
    is ∙ ap₂ nat_cmp (ap₂ (λ i j. i * j) (other ∙ ap unsigned_abs n.1) e) (ap₂ (λ i j. i * j) (size ∙ ap unsigned_abs m.1) f) ∙ sym (cmp_negative a b m.0 n.0 (sym first ∙ m.1) (sym second ∙ n.1))
