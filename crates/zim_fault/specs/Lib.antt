pub mod Words
pub mod Signs
pub mod Kinds
pub mod Bytes
