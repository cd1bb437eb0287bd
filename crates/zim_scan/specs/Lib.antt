pub mod Refused
pub mod Nesting
