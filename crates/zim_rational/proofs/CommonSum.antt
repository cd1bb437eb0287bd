-- A sum is the sum of the numerators over the least common denominator.
use Rattle.std.proofs.Common.{ℕ, ℤ, pos, ◌≡◌, ◌+◌, ◌*◌, ◌<◌, ◌+ℤ◌, ◌*ℤ◌, arith, ap, subst}
use borrow.Author.Differences.{up, down, sum_is_lem, product_is}
use Rattle.zim_rational.specs.Rational.{Rational, ratio, plus}
use Rattle.zim_rational.proofs.Fraction.{IsFraction, one_fraction, scaled, own-parts, plus-is, ratio-is}

common_lem : (x y u v k l N N' m : ℕ) → N + y * k + v * l ≡ N' + x * k + u * l → (x * k + u * l) * m + N' * m ≡ N * m + (y * k + v * l) * m
common_lem x y u v k l N N' m h = let e = ap (λ n. n * m) h in omega arith

-- over any common denominator m
pub common_plus : (a b : Rational) (k l m : ℕ) → a.denom * k ≡ m → b.denom * l ≡ m → 0 < k → 0 < l → plus a b ≡ ratio (a.numer *ℤ pos k +ℤ b.numer *ℤ pos l) m
common_plus a b k l m e f some more =
    let n : ℤ = a.numer *ℤ pos k +ℤ b.numer *ℤ pos l in
    let left : IsFraction a (up a.numer * k) (down a.numer * k) m =
    subst (λ (d : ℕ). IsFraction a (up a.numer * k) (down a.numer * k) d) e (scaled a (up a.numer) (down a.numer) a.denom k some (own-parts a)) in
    let right : IsFraction b (up b.numer * l) (down b.numer * l) m =
    subst (λ (d : ℕ). IsFraction b (up b.numer * l) (down b.numer * l) d) f (scaled b (up b.numer) (down b.numer) b.denom l more (own-parts b)) in
    one_fraction
    (plus a b)
    (ratio n m)
    (up a.numer * k + up b.numer * l)
    (down a.numer * k + down b.numer * l)
    m
    (up n)
    (down n)
    m
    (plus-is a b _ _ _ _ m left right)
    (ratio-is n m left.positive)
    (common_lem
    (up a.numer)
    (down a.numer)
    (up b.numer)
    (down b.numer)
    k
    l
    (up n)
    (down n)
    m
    (omega (arith, sum_is_lem (a.numer *ℤ pos k) (b.numer *ℤ pos l), product_is a.numer (pos k), product_is b.numer (pos l))))
