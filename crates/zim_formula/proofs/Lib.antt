pub mod GroundLaws
pub mod GroundRuleLaws
mod GroundExamples
