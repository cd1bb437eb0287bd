-- What each operation answers: the exact result, or why there is none.
use Rattle.std.specs.Prelude.{ℕ, ℤ, pos, ◌&&◌, cond, nat_le, int_lt, Result, Ok, Err}
use Rattle.zim_rational.specs.Gcd.{lcm}
use Rattle.zim_rational.specs.Rational.{Rational, zero, whole, plus, minus, negate, times, over, same}
use Rattle.zim_rational.specs.Rounding.{power}
use Rattle.zim_fraction.specs.Limit.{limit, is_number, is_sum_within}
use Rattle.zim_fraction.specs.declared.fault.Past.{Past}
use Rattle.zim_fraction.specs.declared.fault.NumFault.{NumFault}
use Rattle.zim_fraction.specs.declared.fault.NumFault.TheVariants as fault

-- the least common multiple, past where it passes the limit
unfoldable pub lcm_answer : ℕ → ℕ → Result ℤ Past
lcm_answer a b = cond (nat_le (lcm a b) limit) (Ok (pos (lcm a b))) (Err (record {}))

-- a + b, past where a part of the calculation over the least common denominator passes the limit
unfoldable pub sum_answer : Rational → Rational → Result Rational Past
sum_answer a b = cond (is_sum_within a b) (Ok (plus a b)) (Err (record {}))

-- a - b, past where a + (-b) is
unfoldable pub difference_answer : Rational → Rational → Result Rational Past
difference_answer a b = cond (is_sum_within a (negate b)) (Ok (minus a b)) (Err (record {}))

-- a b, past where its lowest terms pass the limit
unfoldable pub product_answer : Rational → Rational → Result Rational Past
product_answer a b = cond (is_number (times a b)) (Ok (times a b)) (Err (record {}))

-- q, past where its lowest terms pass the limit
unfoldable pub number_answer : Rational → Result Rational NumFault
number_answer q = cond (is_number q) (Ok q) (Err fault.Past)

-- n/d, with no answer where d is 0
unfoldable pub ratio_answer : ℤ → ℤ → Result Rational NumFault
ratio_answer n d = cond (same (whole d) zero) (Err fault.DivZero) (number_answer (over (whole n) (whole d)))

-- a/b, with no answer where b is 0
unfoldable pub quotient_answer : Rational → Rational → Result Rational NumFault
quotient_answer a b = cond (same b zero) (Err fault.DivZero) (number_answer (over a b))

-- a to the power e, with no answer where a is 0 and e below 0
unfoldable pub power_answer : Rational → ℤ → Result Rational NumFault
power_answer a e = cond (same a zero && int_lt e (pos 0)) (Err fault.DivZero) (number_answer (power a e))
