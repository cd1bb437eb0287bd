pub mod ColumnLemmas
pub mod TermLemmas
pub mod SumLemmas
