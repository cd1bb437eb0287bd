pub mod Sorts
-- for private contracts alone
pub mod Parts
