use Rattle.std.proofs.Common.{rules, arith, refl}
use Rattle.std.proofs.lemmas.Grind.{common_steps}
use Rattle.zim_parse_expression.proofs.TurnLaws.{turns_begin, loop_goes_on, loop_stops, loop_fails, loop_ends}
use Rattle.zim_parse_expression.proofs.turns.repeat.Goals as goal

pub loop-turn-init : goal.loop-turn-init
loop-turn-init g c = λ of is. turns_begin of _ _ _ _ refl c.new-items.ensures

pub returns-in_err-turn : goal.returns-in_err-turn
returns-in_err-turn g c = λ of is.
    let read = is _ _ _ c.turn.ensures in
    let h = loop_fails of _ _ _ _ (c.loop-turn.invariant of is) c.loop-turn-test.true in
    first_of (search (rules, h, read), grind (arith, common_steps, h, read))

pub returns-in-None : goal.returns-in-None
returns-in-None g c = λ of is.
    let read = is _ _ _ c.turn.ensures in
    let h = loop_stops of _ _ _ _ {left = c.turn.new.arg2} (c.loop-turn.invariant of is) c.loop-turn-test.true in
    first_of (search (rules, h, read), grind (arith, common_steps, h, read))

pub loop-turn-preserved : goal.loop-turn-preserved
loop-turn-preserved g c = λ of is.
    let read = is _ _ _ c.turn.ensures in
    let h = loop_goes_on of _ _ _ _ {left = c.turn.new.arg2} {x = c.in-Some.item} (c.loop-turn.invariant of is) c.loop-turn-test.true in
    first_of (search (rules, h, read), grind (arith, common_steps, h, read))

pub returns : goal.returns
returns g c = λ of is. loop_ends of _ _ _ _ (c.loop-turn.invariant of is) c.loop-turn-test.false
