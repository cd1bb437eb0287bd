pub mod IntegerForms
pub mod Terms
pub mod Meaning
pub mod Turns
