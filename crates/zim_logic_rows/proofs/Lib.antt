pub mod BinaryLaws
pub mod TruthLaws
pub mod AbsoluteLaws
pub mod JoinLaws
pub mod GuardedLaws
pub mod ValidLaws
pub mod SizeLaws
pub mod ColumnLaws
pub mod TruthStepLemmas
pub mod SizeStepLemmas
pub mod RefusalLaws
mod JoinRowLemmas
