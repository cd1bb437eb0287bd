pub mod Meaning
pub mod Grounding
pub mod Asking
pub mod Law
pub mod Listed
