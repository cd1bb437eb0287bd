pub mod Ground
pub mod GroundRules
