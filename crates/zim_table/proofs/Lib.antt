mod Examples
mod Lines
mod TupleTexts
mod ColumnLines
mod FoundLemmas
mod PieceLemmas
pub mod TextLaws
mod Places
pub mod WholeLaws
