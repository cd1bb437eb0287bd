-- What a reader has to believe.
pub mod Templates
pub mod Lines
pub mod Rows
pub mod Reading
pub mod Causes
-- Examples of these.
pub mod Examples
-- Words of contracts within the crate.
pub mod Private
