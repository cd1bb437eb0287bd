use Rattle.std.proofs.Common.{rules, arith}
use Rattle.std.proofs.lemmas.Grind.{common_steps}
use Rattle.zim_parse_expression.specs.Parser.{parse}
use Rattle.zim_parse.proofs.StatementTurns.{rows_begin, rows_go_on, rows_stop, rows_fail, rows_end}
use Rattle.zim_parse.proofs.grammar.Grammar.rows.Goals as goal

pub loop-turn-init : goal.loop-turn-init
loop-turn-init c = rows_begin _ _ _ _ _ c.new-rows.ensures

pub returns-in_err-row : goal.returns-in_err-row
returns-in_err-row c =
    let h = rows_fail (parse c.args.self.now.depth) c.args.columns _ _ _ _ c.loop-turn.invariant c.loop-turn-test.true in
    first_of (search (rules, h), grind (arith, common_steps, h))

pub returns-in-None : goal.returns-in-None
returns-in-None c =
    let h = rows_stop (parse c.args.self.now.depth) c.args.columns _ _ _ _ {r1 = c.row.new.tokens} {row = c.in_ok-row.row} c.loop-turn.invariant c.loop-turn-test.true in
    first_of (search (rules, h), grind (arith, common_steps, h))

pub loop-turn-preserved : goal.loop-turn-preserved
loop-turn-preserved c =
    let h = rows_go_on (parse c.args.self.now.depth) c.args.columns _ _ _ _ {r1 = c.row.new.tokens} {left = c.eat_sign.new.self} {row = c.in_ok-row.row} {p = c.in-Some._bar} c.loop-turn.invariant c.loop-turn-test.true in
    first_of (search (rules, h), grind (arith, common_steps, h))

pub returns : goal.returns
returns c = λ _. rows_end (parse c.args.self.now.depth) c.args.columns _ _ _ _ c.loop-turn.invariant c.loop-turn-test.false
