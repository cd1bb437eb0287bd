pub mod LogicRows
pub mod Truth
pub mod Literals
pub mod Absolute
pub mod Guards
pub mod Steps
pub mod Numbers
