pub mod Model
pub mod Satisfying
pub mod Parsed
pub mod Reading
pub mod ExactlyOne
pub mod Program
pub mod Compile
pub mod Steps
