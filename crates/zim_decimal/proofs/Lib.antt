pub mod ShortLemmas
pub mod DecimalLemmas
pub mod TokenLaws
pub mod ValueLaws
pub mod DigitLaws
pub mod LiteralLemmas
