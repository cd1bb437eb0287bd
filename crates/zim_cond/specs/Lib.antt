pub mod Conditions
pub mod Meaning
pub mod ConditionTurns
