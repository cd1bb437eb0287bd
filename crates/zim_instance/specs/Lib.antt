pub mod Instance
pub mod System
pub mod Seen
