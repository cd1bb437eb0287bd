pub mod Statements
pub mod Encoded
pub mod Progress
pub mod Law
