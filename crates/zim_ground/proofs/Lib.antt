pub mod ListedLaws
pub mod TermLaws
pub mod ConditionLaws
pub mod ConstraintLaws
