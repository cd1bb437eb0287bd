pub mod AppendingLaws
mod Counting
mod Finding
pub mod Going
pub mod PenLaws
pub mod SinkPenLaws
pub mod MemoryPuts
mod Slices
