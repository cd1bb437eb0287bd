-- Euclid's steps keep the common divisors, and there is one greatest.
use Rattle.std.proofs.Common.{ℕ, ◌≡◌, arith, sym, ap, subst, ◌∙◌, ◌<◌, ◌≤◌}
use Rattle.std.proofs.lemmas.Nat.Gcd.{IsGcd-from_zero, IsGcd-from_mod, same_from_IsGcd}
use Rattle.zim_rational.specs.Gcd.{gcd, gcd-is, gcd-one, gcd-pos, gcd_le}
use Rattle.zim_fraction.proofs.divisor.common_divisor.Goals as goal

pub returns-then-b-eq1-clause-value : goal.returns-then-b-eq1-clause-value
returns-then-b-eq1-clause-value c = sym (ap (gcd c.args.a) c.if-b-eq1.true ∙ gcd-one c.args.a)

pub loop-y-preserved : goal.loop-y-preserved
loop-y-preserved c g h = c.loop-y.invariant g (IsGcd-from_mod _ _ g h)

pub returns : goal.returns
returns c =
    let value : c.loop-y.x ≡ gcd c.args.a c.args.b =
    same_from_IsGcd _ _ _ _ (c.loop-y.invariant _ (IsGcd-from_zero _ _ (omega arith))) (gcd-is _ _) in
    record {
      value = value;
      positive = λ h. subst (λ (n : ℕ). 0 < n) (sym value) (gcd-pos _ _ h);
      bound = λ h. subst (λ (n : ℕ). n ≤ c.args.b) (sym value) (gcd_le _ _ h);
    }
