-- When two numbers have a quotient and a rest, and that both fit.
use Rattle.std.proofs.Common.{ℕ, ℤ, pos, negsuc, suc, ◌≡◌, ◌/◌, ◌<◌, ◌≤◌, ◌&&◌, Bool, true, false, cond, Option, None, Some, Ok, Err, unsigned_abs, of_z, to_z, SFits, arith, refl, sym, ap, ap₂, subst, ◌∙◌, div-le_self}
use Rattle.std.specs.Prelude.{int_div, int_rem}
use Rattle.std.specs.Int.{w128}
use Rattle.std.proofs.lemmas.Bool.{both_ways, cond-true, cond-false}
use Rattle.std.proofs.lemmas.Int.{to_z-of_z, fits_signed_from_abs, quot_is, rem_is}
use Rattle.zim_fraction.specs.Limit.{limit}
use Rattle.zim_functions.proofs.TruncatedLemmas.{quotient_is, rest_is}
use Rattle.zim_functions.specs.Numbers.{stop_of, unless, truncated_quotient, truncated_rest, div_answer, mod_answer}
use Rattle.zim_functions.specs.declared.stops.NumStop.{NumStop}
use Rattle.zim_functions.specs.declared.stops.NumStop.TheVariants.{NotInteger, DivZero}
use Rattle.zim_rational.specs.Rational.{Rational, abs_neg, zero, whole, same, is_whole}
use Rattle.zim_rational.proofs.Whole.{abs-pos, is_whole_whole, same_Decides}

-- ---- stops

pub stop_unwhole : (a b : Rational) → (is_whole a && is_whole b) ≡ false → Some NotInteger ≡ stop_of a b
unfolding stop_of
stop_unwhole a b other = sym (cond-false (is_whole a && is_whole b) _ _ other)

pub stop_zero : (a b : Rational) → (is_whole a && is_whole b) ≡ true → same b zero ≡ true → Some DivZero ≡ stop_of a b
unfolding stop_of
stop_zero a b both none = sym (cond-true (is_whole a && is_whole b) _ _ both ∙ cond-true (same b zero) _ _ none)

pub stop_none : (a b : Rational) → (is_whole a && is_whole b) ≡ true → same b zero ≡ false → None ≡ stop_of a b
unfolding stop_of
stop_none a b both some = sym (cond-true (is_whole a && is_whole b) _ _ both ∙ cond-false (same b zero) _ _ some)

no_stop : (p q r : Bool) → None ≡ cond (p && q) (cond r (Some DivZero) None) (Some NotInteger) → (p ≡ true) × (q ≡ true) × (r ≡ false)
no_stop true true false e = (refl, refl, refl)
no_stop true true true e = cc
no_stop true false r e = cc
no_stop false q r e = cc

-- two numbers without a stop are whole, and the second isn't 0
pub record AreDivisible (a b : Rational) : Type 0 where
  pub first : a ≡ whole a.numer
  pub second : b ≡ whole b.numer
  pub some : 0 < unsigned_abs b.numer

pub divisible : (a b : Rational) → None ≡ stop_of a b → AreDivisible a b
unfolding stop_of
divisible a b e =
    let parts = no_stop (is_whole a) (is_whole b) (same b zero) e in
    record {
      first = is_whole_whole a parts.0;
      second = is_whole_whole b parts.1;
      some = abs-pos b (λ none. both_ways (same b zero) parts.2 ((same_Decides b zero).1 none));
    }

-- ---- the quotient fits

quotient_small : (m n : ℤ) → unsigned_abs (int_div m n) ≤ unsigned_abs m
quotient_small (pos a) (pos b) = div-le_self a b
quotient_small (pos a) (negsuc b) = subst (λ (k : ℕ). k ≤ a) (sym (abs_neg (a / suc b))) (div-le_self a (suc b))
quotient_small (negsuc a) (pos b) = subst (λ (k : ℕ). k ≤ suc a) (sym (abs_neg (suc a / b))) (div-le_self (suc a) b)
quotient_small (negsuc a) (negsuc b) = div-le_self (suc a) (suc b)

fits : (m : ℤ) → unsigned_abs m ≤ limit → SFits w128 m
fits m small = fits_signed_from_abs w128 m (omega arith)

quotient_fits : (m n : ℤ) → unsigned_abs m ≤ limit → SFits w128 (int_div m n)
quotient_fits m n small = fits_signed_from_abs w128 (int_div m n) (let less = quotient_small m n in omega arith)

some_bits : (n : ℤ) → unsigned_abs n ≤ limit → 0 < unsigned_abs n → 0 < of_z w128 n
some_bits (pos n) small some = some
some_bits (negsuc n) small some = omega arith

pub divides : (a b : Rational) (m n : ℤ) → None ≡ stop_of a b → n ≡ b.numer → unsigned_abs m ≤ limit → unsigned_abs n ≤ limit → (0 < of_z w128 n) × SFits w128 (int_div (to_z w128 (of_z w128 m)) (to_z w128 (of_z w128 n)))
divides a b m n clear second small also =
    let is = divisible a b clear in
    let some : 0 < unsigned_abs n = subst (λ (z : ℤ). 0 < unsigned_abs z) (sym second) is.some in
    (some_bits n also some, rw (to_z-of_z w128 m (fits m small), to_z-of_z w128 n (fits n also)) (quotient_fits m n small))

-- the code's quotient
pub divided : (m n : ℤ) → unsigned_abs m ≤ limit → unsigned_abs n ≤ limit → to_z w128 (of_z w128 (int_div (to_z w128 (of_z w128 m)) (to_z w128 (of_z w128 n)))) ≡ int_div m n
divided m n small also = quot_is w128 m n (fits m small) (fits n also) (quotient_fits m n small)

-- and its rest
pub left : (m n : ℤ) → unsigned_abs m ≤ limit → unsigned_abs n ≤ limit → to_z w128 (of_z w128 (int_rem (to_z w128 (of_z w128 m)) (to_z w128 (of_z w128 n)))) ≡ int_rem m n
left m n small also = rem_is w128 m n (fits m small) (fits n also)

-- ---- answers

pub div_stop : (a b : Rational) (stop : NumStop) → Some stop ≡ stop_of a b → Err stop ≡ div_answer a b
unfolding div_answer
div_stop a b stop e = ap (λ (o : Option NumStop). unless o (truncated_quotient a b)) e

pub mod_stop : (a b : Rational) (stop : NumStop) → Some stop ≡ stop_of a b → Err stop ≡ mod_answer a b
unfolding mod_answer
mod_stop a b stop e = ap (λ (o : Option NumStop). unless o (truncated_rest a b)) e

pub div_ok : (a b q : Rational) (m n z : ℤ) → None ≡ stop_of a b → m ≡ a.numer → n ≡ b.numer → z ≡ int_div m n → q ≡ whole z → Ok q ≡ div_answer a b
unfolding div_answer
div_ok a b q m n z clear first second quotient e =
    let is = divisible a b clear in
    let exact : q ≡ truncated_quotient a b = e ∙ ap whole (quotient ∙ ap₂ int_div first second) ∙ sym (ap₂ truncated_quotient is.first is.second ∙ quotient_is a.numer b.numer is.some) in
    ap Ok exact ∙ ap (λ (o : Option NumStop). unless o (truncated_quotient a b)) clear

pub mod_ok : (a b q : Rational) (m n z : ℤ) → None ≡ stop_of a b → m ≡ a.numer → n ≡ b.numer → z ≡ int_rem m n → q ≡ whole z → Ok q ≡ mod_answer a b
unfolding mod_answer
mod_ok a b q m n z clear first second rest e =
    let is = divisible a b clear in
    let exact : q ≡ truncated_rest a b = e ∙ ap whole (rest ∙ ap₂ int_rem first second) ∙ sym (ap₂ truncated_rest is.first is.second ∙ rest_is a.numer b.numer is.some) in
    ap Ok exact ∙ ap (λ (o : Option NumStop). unless o (truncated_rest a b)) clear
