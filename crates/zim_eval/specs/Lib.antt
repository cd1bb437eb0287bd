pub mod Causes
-- for private contracts alone
pub mod Private
