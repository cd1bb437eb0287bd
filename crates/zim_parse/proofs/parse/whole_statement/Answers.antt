-- What is read, or not, from all the tokens, by the law.
use Rattle.std.proofs.Common.{rules, arith}
use Rattle.std.proofs.lemmas.Grind.{common_steps}
use Rattle.zim_parse.proofs.WholeParse.{whole_read, nothing_read, too_little_read}
use Rattle.zim_parse.proofs.parse.whole_statement.Goals as goal

pub returns-in_err-stmt : goal.returns-in_err-stmt
returns-in_err-stmt c =
    let h = nothing_read c.args.tokens.now in
    first_of (search (rules, h), grind (arith, common_steps, h))

pub returns-then-len-ne0 : goal.returns-then-len-ne0
returns-then-len-ne0 c = λ _ other d.
    too_little_read c.args.tokens.now c.in_ok-stmt.stmt c.statement.new.tokens (rw c.new-rest.ensures at c.in_ok-stmt.ensures) (λ z. c.if-len-ne0.true (omega arith)) other d

pub returns : goal.returns
returns c = whole_read c.args.tokens.now c.in_ok-stmt.stmt c.statement.new.tokens (rw c.new-rest.ensures at c.in_ok-stmt.ensures) (omega arith)
