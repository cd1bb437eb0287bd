pub mod Bounds
pub mod Names
pub mod Declaring
pub mod Numbers
pub mod Parts
pub mod Numbered
