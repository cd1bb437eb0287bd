pub mod AlgebraLaws
pub mod OrderLaws
pub mod WithinLaws
pub mod MultipleLaws
pub mod AnswerLemmas
pub mod ColumnLaws
mod QuotientLemmas
pub mod OverLaws
