pub mod BindLemmas
pub mod GivesLemmas
pub mod GoesLemmas
