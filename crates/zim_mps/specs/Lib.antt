pub mod Sections
pub mod Program
pub mod Syntax
pub mod Reader
pub mod Text
pub mod Correct
pub mod Examples
pub mod Puts
