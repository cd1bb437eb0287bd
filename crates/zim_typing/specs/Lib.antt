pub mod Typing
pub mod Numbers
pub mod Statements
pub mod StatementNumbers
pub mod Law
