pub mod BoundsLaws
pub mod NamesLaws
pub mod NumbersLaws
pub mod NumberedLaws
pub mod DeclaringLaws
