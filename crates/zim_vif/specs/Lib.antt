pub mod Constraints
pub mod Meaning
pub mod RowSteps
pub mod ConstraintTurns
