pub mod Elements
pub mod Environments
pub mod Patterns
