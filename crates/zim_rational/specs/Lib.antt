pub mod Gcd
pub mod Rational
pub mod Rounding
