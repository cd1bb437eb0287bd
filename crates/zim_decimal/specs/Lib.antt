pub mod Short
pub mod Token
pub mod Exponent
pub mod Digits
pub mod Reading
pub mod Literal
