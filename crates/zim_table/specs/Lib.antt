pub mod Tuples
pub mod Reader
pub mod Ended
pub mod Text
pub mod Correct
pub mod Examples
pub mod Columns
