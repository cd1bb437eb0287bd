-- The least common multiple as the code computes it.
use Rattle.std.proofs.Common.{ℕ, ℤ, pos, negsuc, ◌≤ℤ◌, SFits, of_z, unsigned_abs, ◌≡◌, ◌*◌, ◌/◌, ◌<◌, ◌≤◌, ◌^◌, Ok, Err, to_z, nat_le, arith, sym, ap, ◌∙◌, refl, le-leb}
use Rattle.std.specs.Int.{w128}
use Rattle.std.proofs.lemmas.Int.{to_z_pos, to_z-of_z}
use Rattle.std.proofs.lemmas.Bool.{cond-true, cond-false, lt-leb}
use native.Mathlib.Nat.{lt_of_not-le}
use Rattle.zim_rational.proofs.Multiples.{lcm_is}
use Rattle.zim_rational.specs.Gcd.{gcd, lcm, euclid}
use Rattle.zim_fraction.specs.Limit.{limit}
use Rattle.zim_fraction.specs.Answers.{lcm_answer}

pub lcm_by_quotient : (a b g : ℕ) → g ≡ gcd a b → lcm a b ≡ a * (b / g)
lcm_by_quotient a b g e = lcm_is a b ∙ ap (λ n. a * (b / n)) (sym e)

pub lcm_ok : (a b m : ℕ) → lcm a b ≤ limit → m ≡ lcm a b → Ok (to_z w128 m) ≡ lcm_answer a b
unfolding lcm_answer
lcm_ok a b m small e =
    let fits : lcm a b < 2 ^ 127 = omega arith in
    ap Ok (ap (to_z w128) e ∙ to_z_pos w128 (lcm a b) fits) ∙ sym (cond-true (nat_le (lcm a b) limit) _ _ (le-leb (lcm a b) limit small))

pub lcm_past : (a b : ℕ) → (lcm a b ≤ limit → ⊥) → Err (record {}) ≡ lcm_answer a b
unfolding lcm_answer
lcm_past a b large =
    sym (cond-false (nat_le (lcm a b) limit) _ _ (lt-leb (lcm a b) limit (lt_of_not-le large)))

pub gcd-zero : (a : ℕ) → gcd a 0 ≡ a
unfolding gcd euclid
gcd-zero a = refl

pub gcd_with_zero : (a b : ℤ) → pos 0 ≤ℤ a → SFits w128 a → pos 0 ≤ℤ b → of_z w128 b ≡ 0 → to_z w128 (of_z w128 a) ≡ pos (gcd (unsigned_abs a) (unsigned_abs b))
gcd_with_zero (pos a) (pos b) h fits k e =
    to_z-of_z w128 (pos a) fits ∙ ap pos (sym (gcd-zero a)) ∙ ap (λ n. pos (gcd a n)) (sym e)
gcd_with_zero (pos a) (negsuc b) h fits k e = absurd k.le
gcd_with_zero (negsuc a) b h fits k e = absurd h.le
