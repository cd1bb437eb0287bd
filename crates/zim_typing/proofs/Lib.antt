pub mod ConstantLaws
pub mod NumberLaws
pub mod NamesLemmas
pub mod FitLemmas
pub mod GoesLemmas
pub mod NodeLemmas
pub mod FunctionLemmas
pub mod SlotLemmas
pub mod BelongLaws
pub mod TermLaws
mod StillLemmas
mod MeasuredLemmas
mod TermNodeLemmas
pub mod TermBelongLaws
mod DecidedLemmas
pub mod ConditionBelongLaws
pub mod ConstraintBelongLaws
pub mod BoundBelongLaws
pub mod StatementBelongLaws
pub mod ReadNumberLaws
