pub mod Forms
pub mod Answers
pub mod Sums
pub mod Multiples
pub mod Ends
pub mod Integers
