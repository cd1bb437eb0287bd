pub mod Answer
pub mod Gives
