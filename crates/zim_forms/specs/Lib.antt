pub mod Exact
pub mod Algebra
pub mod FormEnds
