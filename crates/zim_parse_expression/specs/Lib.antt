-- The laws of expressions: these are to be believed.
pub mod Law
pub mod GroupingLaw
-- The parser as a function, which the laws name, with what it looks at in the next tokens.
pub mod Next
pub mod Parser
pub mod StatementTokens
-- What a function answers by a parser, and the parts of the parser: contracts alone name these.
pub mod Outcome
pub mod Turns
pub mod Steps
