-- Fractions are a commutative ring: the laws of sum, negation, difference and product.
use Rattle.std.proofs.Common.{◌≡◌, ◌<◌, arith, refl, sym, ◌∙◌, mul_assoc, mul-one, lit<}
use Rattle.zim_rational.specs.Rational.{Rational, zero, one, plus, minus, negate, times}
use Rattle.zim_rational.proofs.Fraction.{fractions, products, zero_fraction, one_fraction_of, own-parts, one_fraction, times-is, zero-is, common1, common2, common3}

pub plus_comm : (a b : Rational) → plus a b ≡ plus b a
plus_comm = common2 (λ a b. plus a b ≡ plus b a) (λ x y u v d some. simp fractions (omega arith))

pub plus_assoc : (a b c : Rational) → plus (plus a b) c ≡ plus a (plus b c)
plus_assoc =
    common3
    (λ a b c. plus (plus a b) c ≡ plus a (plus b c))
    (λ x y u v s t d some. simp fractions (omega arith))

pub plus_left_comm : (a b c : Rational) → plus a (plus b c) ≡ plus b (plus a c)
plus_left_comm =
    common3
    (λ a b c. plus a (plus b c) ≡ plus b (plus a c))
    (λ x y u v s t d some. simp fractions (omega arith))

pub plus_zero : (a : Rational) → plus a zero ≡ a
plus_zero = common1 (λ a. plus a zero ≡ a) (λ x y d some. simp (zero_fraction d some, fractions) (omega arith))

pub zero_plus : (a : Rational) → plus zero a ≡ a
zero_plus a = plus_comm zero a ∙ plus_zero a

pub plus_negate : (a : Rational) → plus a (negate a) ≡ zero
plus_negate =
    common1 (λ a. plus a (negate a) ≡ zero) (λ x y d some. simp (zero_fraction d some, fractions) (omega arith))

pub negate_negate : (a : Rational) → negate (negate a) ≡ a
negate_negate = common1 (λ a. negate (negate a) ≡ a) (λ x y d some. simp fractions (omega arith))

pub negate_plus : (a b : Rational) → negate (plus a b) ≡ plus (negate a) (negate b)
negate_plus =
    common2 (λ a b. negate (plus a b) ≡ plus (negate a) (negate b)) (λ x y u v d some. simp fractions (omega arith))

pub negate_zero : negate zero ≡ zero
negate_zero = sym (zero_plus (negate zero)) ∙ plus_negate zero

-- a difference is the sum with the negation
pub minus_is : (a b : Rational) → minus a b ≡ plus a (negate b)
unfolding minus
minus_is a b = refl

pub minus_self : (a : Rational) → minus a a ≡ zero
minus_self a = minus_is a a ∙ plus_negate a

pub minus_zero : (a : Rational) → minus a zero ≡ a
minus_zero = common1 (λ a. minus a zero ≡ a) (λ x y d some. simp (zero_fraction d some, fractions) (omega arith))

pub negate_minus : (a b : Rational) → negate (minus a b) ≡ minus b a
negate_minus =
    common2 (λ a b. negate (minus a b) ≡ minus b a) (λ x y u v d some. simp fractions (omega arith))

-- what is added can be taken away
pub minus_plus : (a b : Rational) → plus (minus a b) b ≡ a
minus_plus = common2 (λ a b. plus (minus a b) b ≡ a) (λ x y u v d some. simp fractions (omega arith))

pub plus_minus : (a b : Rational) → minus (plus a b) b ≡ a
plus_minus = common2 (λ a b. minus (plus a b) b ≡ a) (λ x y u v d some. simp fractions (omega arith))

pub plus_cancel : (a b c : Rational) → plus a c ≡ plus b c → a ≡ b
plus_cancel =
    common3
    (λ a b c. plus a c ≡ plus b c → a ≡ b)
    (λ x y u v s t d some. simp fractions (λ h. omega arith))

-- a difference is 0 exactly between equal numbers
pub same_from_minus : (a b : Rational) → minus a b ≡ zero → a ≡ b
same_from_minus =
    common2
    (λ a b. minus a b ≡ zero → a ≡ b)
    (λ x y u v d some. simp (zero_fraction d some, fractions) (λ h. omega arith))

pub times_comm : (a b : Rational) → times a b ≡ times b a
times_comm = common2 (λ a b. times a b ≡ times b a) (λ x y u v d some. simp products (omega arith))

pub times_assoc : (a b c : Rational) → times (times a b) c ≡ times a (times b c)
times_assoc =
    common3
    (λ a b c. times (times a b) c ≡ times a (times b c))
    (λ x y u v s t d some. simp (mul_assoc, products) (omega arith))

pub times_plus : (a b c : Rational) → times a (plus b c) ≡ plus (times a b) (times a c)
times_plus =
    common3
    (λ a b c. times a (plus b c) ≡ plus (times a b) (times a c))
    (λ x y u v s t d some. simp products (omega arith))

pub plus_times : (a b c : Rational) → times (plus a b) c ≡ plus (times a c) (times b c)
plus_times =
    common3
    (λ a b c. times (plus a b) c ≡ plus (times a c) (times b c))
    (λ x y u v s t d some. simp products (omega arith))

pub times_minus : (a b c : Rational) → times a (minus b c) ≡ minus (times a b) (times a c)
times_minus =
    common3
    (λ a b c. times a (minus b c) ≡ minus (times a b) (times a c))
    (λ x y u v s t d some. simp products (omega arith))

pub times_negate : (a b : Rational) → times a (negate b) ≡ negate (times a b)
times_negate =
    common2 (λ a b. times a (negate b) ≡ negate (times a b)) (λ x y u v d some. simp products (omega arith))

pub negate_times : (a b : Rational) → times (negate a) b ≡ negate (times a b)
negate_times =
    common2 (λ a b. times (negate a) b ≡ negate (times a b)) (λ x y u v d some. simp products (omega arith))

pub times_one : (a : Rational) → times a one ≡ a
times_one =
    common1
    (λ a. times a one ≡ a)
    (λ x y d some. let unit : 0 < 1 = lit< tt in simp (one_fraction_of 1 unit, mul-one, products) (omega arith))

pub one_times : (a : Rational) → times one a ≡ a
one_times a = times_comm one a ∙ times_one a

pub times_zero : (a : Rational) → times a zero ≡ zero
times_zero a =
    one_fraction _ _ _ _ _ 0 0 1 (times-is a zero _ _ _ 0 0 1 (own-parts a) zero-is) zero-is (omega arith)

pub zero_times : (a : Rational) → times zero a ≡ zero
zero_times a = times_comm zero a ∙ times_zero a
