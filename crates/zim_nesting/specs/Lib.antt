pub mod TokenNesting
pub mod Depth
pub mod Counts
pub mod Law
