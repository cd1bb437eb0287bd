pub mod Lines
pub mod Numbers
pub mod Readable
pub mod Said
pub mod Parsing
pub mod Transposed
pub mod NameLemmas
pub mod ColumnLemmas
pub mod OnceLemmas
pub mod Consistent
pub mod Meaning
pub mod Objective
pub mod ProgramReads
pub mod TextLaws
mod Examples
pub mod Pieces
pub mod CostLemmas
