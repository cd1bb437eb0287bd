-- The limit of 128 bits: which fractions are numbers, and when a sum stays within the limit.
use Rattle.std.specs.Prelude.{ℕ, ℤ, Bool, pos, ◌+ℤ◌, ◌*ℤ◌, ◌/◌, ◌&&◌, nat_le, unsigned_abs}
use Rattle.zim_rational.specs.Gcd.{lcm}
use Rattle.zim_rational.specs.Rational.{Rational}

-- the greatest numerator and the greatest denominator, 2^127 - 1
abbrev pub limit : ℕ
limit = 170141183460469231731687303715884105727

-- neither n nor d passes the limit
abbrev pub is_within : ℤ → ℕ → Bool
is_within n d = nat_le (unsigned_abs n) limit && nat_le d limit

-- the fraction's lowest terms are within the limit
abbrev pub is_number : Rational → Bool
is_number q = is_within q.numer q.denom

-- the least common denominator of a and b
abbrev pub common_denom : Rational → Rational → ℕ
common_denom a b = lcm a.denom b.denom

-- the numerator of q over m, a multiple of its denominator
abbrev pub numer_over : Rational → ℕ → ℤ
numer_over q m = q.numer *ℤ pos (m / q.denom)

-- the numerator of a + b over the least common denominator, which need not be lowest terms
abbrev pub common_numer : Rational → Rational → ℤ
common_numer a b = numer_over a (common_denom a b) +ℤ numer_over b (common_denom a b)

-- the least common denominator, each numerator over it and the sum of these are within the limit
unfoldable pub is_sum_within : Rational → Rational → Bool
is_sum_within a b =
    nat_le (common_denom a b) limit && nat_le (unsigned_abs (numer_over a (common_denom a b))) limit && nat_le (unsigned_abs (numer_over b (common_denom a b))) limit && nat_le (unsigned_abs (common_numer a b)) limit
