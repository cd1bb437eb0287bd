-- Factorials, and quotients and rests of whole numbers.
use Rattle.std.specs.Prelude.{ℕ, pos, ◌*◌, Bool, ◌&&◌, cond, unsigned_abs, Option, None, Some, Result, Ok, Err}
use Rattle.std.specs.Prelude as std
use Rattle.zim_fraction.specs.Limit.{is_number}
use Rattle.zim_functions.specs.declared.stops.NumStop.{NumStop}
use Rattle.zim_functions.specs.declared.stops.NumStop.TheVariants.{NotInteger, DivZero, Past}
use Rattle.zim_rational.specs.Rational.{Rational, zero, whole, minus, times, over, at_most, same, is_whole}
use Rattle.zim_rational.specs.Rounding.{floor, ceil}

-- ---- factorials

-- the product of the whole numbers from 1 to n, which is 1 where there are none
unfoldable pub product_to : ℕ → ℕ
product_to std.zero = 1
product_to (std.suc n) = product_to n * std.suc n

-- a is a whole number from 0 up
unfoldable pub is_natural : Rational → Bool
is_natural a = is_whole a && at_most zero a

-- q, past where it passes the limit
unfoldable pub within_limit : Rational → Result Rational NumStop
within_limit q = cond (is_number q) (Ok q) (Err Past)

-- a!, which whole numbers from 0 up have
unfoldable pub factorial_answer : Rational → Result Rational NumStop
factorial_answer a = cond (is_natural a) (within_limit (whole (pos (product_to (unsigned_abs a.numer))))) (Err NotInteger)

-- ---- quotients and rests

-- a cut towards zero: the whole number that is left without what stands behind the point
unfoldable pub truncated : Rational → Rational
truncated a = cond (at_most zero a) (floor a) (ceil a)

-- a div b: the quotient, cut towards zero
unfoldable pub truncated_quotient : Rational → Rational → Rational
truncated_quotient a b = truncated (over a b)

-- a mod b: what is left of a without b times that quotient
unfoldable pub truncated_rest : Rational → Rational → Rational
truncated_rest a b = minus a (times b (truncated_quotient a b))

-- why a and b have neither: one of them isn't whole, or else b is 0
unfoldable pub stop_of : Rational → Rational → Option NumStop
stop_of a b = cond (is_whole a && is_whole b) (cond (same b zero) (Some DivZero) None) (Some NotInteger)

-- q, unless there is a stop
abbrev pub unless : Option NumStop → Rational → Result Rational NumStop
unless None q = Ok q
unless (Some stop) q = Err stop

-- a div b, which is never past
unfoldable pub div_answer : Rational → Rational → Result Rational NumStop
div_answer a b = unless (stop_of a b) (truncated_quotient a b)

-- a mod b, which is never past
unfoldable pub mod_answer : Rational → Rational → Result Rational NumStop
mod_answer a b = unless (stop_of a b) (truncated_rest a b)
