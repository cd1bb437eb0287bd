pub mod ConstantLemmas
pub mod TermLemmas
pub mod StatementLemmas
pub mod VariableLaws
mod WorkedLemmas
pub mod NestingLaws
mod NestingLemmas
