-- Whole numbers near a fraction, absolute values, the larger of two numbers, and powers.
use Rattle.std.specs.Prelude.{ℕ, ℤ, pos, negsuc, cond}
use Rattle.std.specs.Prelude as std
use Rattle.std.specs.Int.{int_div_euclid}
use Rattle.zim_rational.specs.Rational.{Rational, zero, one, whole, ratio, plus, negate, times, reciprocal, at_most}

-- the greatest whole number that is at most a
unfoldable pub floor : Rational → Rational
floor a = whole (int_div_euclid a.numer (pos a.denom))

-- the least whole number that is at least a
unfoldable pub ceil : Rational → Rational
ceil a = negate (floor (negate a))

-- 1/2
unfoldable pub half : Rational
half = ratio (pos 1) 2

-- the nearest whole number, and of two that are equally near the one farther from 0
unfoldable pub round : Rational → Rational
round a = cond (at_most zero a) (floor (plus a half)) (ceil (plus a (negate half)))

-- a without its sign
unfoldable pub absolute : Rational → Rational
absolute a = cond (at_most zero a) a (negate a)

-- the larger of a and b
unfoldable pub larger : Rational → Rational → Rational
larger a b = cond (at_most a b) b a

-- the smaller of a and b
unfoldable pub smaller : Rational → Rational → Rational
smaller a b = cond (at_most a b) a b

-- the product of n factors a, which is 1 of none
unfoldable pub product_of : Rational → ℕ → Rational
product_of a std.zero = one
product_of a (std.suc n) = times a (product_of a n)

-- a to the power e, where a power below 0 is 1 over that above
unfoldable pub power : Rational → ℤ → Rational
power a (pos n) = product_of a n
power a (negsuc n) = reciprocal (product_of a (std.suc n))
