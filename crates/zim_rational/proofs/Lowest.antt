-- When two numbers have no common divisor but 1, and that a pair in lowest terms is the fraction's own.
use Rattle.std.proofs.Common.{ℕ, ℤ, zero, suc, ◌≡◌, ◌+◌, ◌*◌, ◌^◌, ◌<◌, IsTrue, unsigned_abs, nat_lt, nat_eq, arith, ap, subst, ◌∙◌, mul_comm, pow-suc, lt-ltb, eq-eqb}
use Rattle.std.specs.Int.{◌∣◌}
use Rattle.std.proofs.lemmas.Bool.{and_from}
use Rattle.std.proofs.lemmas.Nat.Gcd.{dvd_trans, dvd_antisymm}
use native.Mathlib.Nat.{eq-one_of_dvd-one, pow-zero}
use borrow.Author.Differences.{up, down}
use Rattle.zim_rational.specs.Gcd.{gcd, gcd-is, gcd-one, divides_other}
use Rattle.zim_rational.specs.Rational.{Rational, is_lowest, ratio, ratio_of_lowest}
use Rattle.zim_rational.proofs.Fraction.{IsFraction, one_fraction, ratio-is}

-- a common divisor of numbers in lowest terms is 1
pub common_is-one : (a b d : ℕ) → gcd a b ≡ 1 → d ∣ a → d ∣ b → d ≡ 1
common_is-one a b d lowest p q =
    eq-one_of_dvd-one (subst (λ (g : ℕ). d ∣ g) lowest ((gcd-is a b).2 d p q))

pub gcd_comm : (a b : ℕ) → gcd a b ≡ gcd b a
gcd_comm a b =
    dvd_antisymm
    ((gcd-is b a).2 (gcd a b) ((gcd-is a b).1) ((gcd-is a b).0))
    ((gcd-is a b).2 (gcd b a) ((gcd-is b a).1) ((gcd-is b a).0))

-- divisors of two numbers in lowest terms are in lowest terms
pub gcd_divisors : (a b x y : ℕ) → gcd a b ≡ 1 → x ∣ a → y ∣ b → gcd x y ≡ 1
gcd_divisors a b x y lowest p q =
    common_is-one a b (gcd x y) lowest (dvd_trans _ ((gcd-is x y).0) p) (dvd_trans _ ((gcd-is x y).1) q)

pub gcd-product : (a b c : ℕ) → gcd a c ≡ 1 → gcd b c ≡ 1 → gcd (a * b) c ≡ 1
gcd-product a b c p q =
    let g : ℕ = gcd (a * b) c in
    let left : g ∣ b * a = subst (λ (n : ℕ). g ∣ n) (mul_comm a b) ((gcd-is (a * b) c).0) in
    let right : g ∣ c = (gcd-is (a * b) c).1 in
    let apart : gcd a g ≡ 1 =
    common_is-one a c (gcd a g) p ((gcd-is a g).0) (dvd_trans _ ((gcd-is a g).1) right) in
    common_is-one b c g q (divides_other a g b apart left) right

pub gcd_products : (a b c d : ℕ) → gcd a c ≡ 1 → gcd a d ≡ 1 → gcd b c ≡ 1 → gcd b d ≡ 1 → gcd (a * b) (c * d) ≡ 1
gcd_products a b c d p q r s =
    gcd_comm (a * b) (c * d) ∙ gcd-product c d (a * b) (gcd_comm c (a * b) ∙ gcd-product a b c p r) (gcd_comm d (a * b) ∙ gcd-product a b d q s)

pub gcd-power : (a b k : ℕ) → gcd a b ≡ 1 → gcd (a ^ k) b ≡ 1
gcd-power a b zero h = ap (λ n. gcd n b) (pow-zero a) ∙ gcd_comm 1 b ∙ gcd-one b
gcd-power a b (suc k) h =
    ap (λ n. gcd n b) (pow-suc a k) ∙ gcd-product (a ^ k) a b (gcd-power a b k h) h

pub gcd_powers : (a b k : ℕ) → gcd a b ≡ 1 → gcd (a ^ k) (b ^ k) ≡ 1
gcd_powers a b k h =
    gcd_comm (a ^ k) (b ^ k) ∙ gcd-power b (a ^ k) k (gcd_comm b (a ^ k) ∙ gcd-power a b k h)

pub is_lowest_from : (n : ℤ) (d : ℕ) → 0 < d → gcd (unsigned_abs n) d ≡ 1 → IsTrue (is_lowest n d)
is_lowest_from n d some h =
    and_from (nat_lt 0 d) (nat_eq (gcd (unsigned_abs n) d) 1) (lt-ltb 0 d some) (eq-eqb _ 1 h)

-- a pair in lowest terms that is q over some denominator is q's own
pub own_lowest : (q : Rational) (n : ℤ) (d x y e : ℕ) → IsFraction q x y e → 0 < d → gcd (unsigned_abs n) d ≡ 1 → up n * e + y * d ≡ x * d + down n * e → (q.numer ≡ n) × (q.denom ≡ d)
own_lowest q n d x y e f some lowest h =
    let same : q ≡ ratio n d =
    one_fraction q (ratio n d) x y e (up n) (down n) d f (ratio-is n d some) (omega arith) in
    let own = ratio_of_lowest n d (is_lowest_from n d some lowest) in
    (ap (λ r. r.numer) (same ∙ own), ap (λ r. r.denom) (same ∙ own))
