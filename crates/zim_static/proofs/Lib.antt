mod ScopeLemmas
pub mod AroundLaws
mod ListLemmas
pub mod PartLaws
mod OperandLemmas
pub mod FirstLaws
mod FaultLoopLemmas
pub mod IndexLaws
mod CallsLemmas
mod NestedLemmas
mod DeepLemmas
mod ConstantCallsLemmas
mod DefinitionLemmas
