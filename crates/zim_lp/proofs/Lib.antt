pub mod Cutting
pub mod Numbers
pub mod Readable
pub mod Sentences
pub mod Parsing
pub mod File
pub mod Meaning
pub mod ProgramParts
pub mod ProgramFile
pub mod TextLaws
pub mod Pieces
mod Examples
