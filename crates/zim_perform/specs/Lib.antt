pub mod Performing
-- for private contracts alone
pub mod Private
