pub mod PieceLemmas
pub mod DepthLaws
pub mod DerivationNesting
pub mod StatementNesting
pub mod DeepLemmas
pub mod CountsLemmas
