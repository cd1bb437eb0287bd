pub mod DefinitionLemmas
pub mod FactorialLemmas
pub mod StopLemmas
pub mod TruncatedLemmas
