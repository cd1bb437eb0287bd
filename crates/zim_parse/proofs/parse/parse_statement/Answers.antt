-- The three faults in their order.
use Rattle.std.proofs.Common.{sym}
use Rattle.zim_parse.specs.Answers.{an_unsupported_word, too_deep}
use Rattle.zim_parse.proofs.WholeParse.{refused_at_first}
use Rattle.zim_parse.proofs.parse.parse_statement.Goals as goal

pub returns-in-Some : goal.returns-in-Some
returns-in-Some c = an_unsupported_word c.in-Some.place c.in-Some.word (sym c.in-Some.ensures)

pub returns-in-Some-first_deep : goal.returns-in-Some-first_deep
returns-in-Some-first_deep c = too_deep c.in-Some-first_deep.place (sym c.in_default.ensures) (sym c.in-Some-first_deep.ensures)

pub returns-in-Err-Syntax : goal.returns-in-Err-Syntax
returns-in-Err-Syntax c =
    refused_at_first c.args.tokens.now c.index-tokens-0.result c.requires (sym c.in_default.ensures) (sym c.in_default-first_deep.ensures) (c.in-Err-Syntax.ensures c.in-Err-Syntax.field-0-is)
