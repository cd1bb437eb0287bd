-- What the parser answers, and its laws: these are to be believed.
pub mod Answers
pub mod AnswerLaw
pub mod SpellingLaw
pub mod StatementLaw
-- The parser as a function, which the law of statements names.
pub mod StatementParser
-- Parts of that function, which private contracts name alone.
pub mod StatementTurns
pub mod StatementSteps
