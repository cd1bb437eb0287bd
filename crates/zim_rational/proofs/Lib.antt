pub mod Fraction
pub mod Ring
pub mod Order
pub mod Sums
pub mod Whole
pub mod Lowest
pub mod Rounding
pub mod Powers
pub mod Parts
pub mod Multiples
pub mod CommonSum
pub mod Compare
pub mod Rows
mod Examples
