mod ParsedLemmas
mod ParsingLemmas
mod SpanLemmas
mod RowPositions
mod BreakLemmas
mod NameLemmas
mod FaultPlaces
mod ListableLemmas
mod ProgramLemmas
mod CompileLemmas
mod OneOfThree
pub mod ModelLaws
