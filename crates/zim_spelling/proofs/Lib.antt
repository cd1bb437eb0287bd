pub mod SpellerLaws
