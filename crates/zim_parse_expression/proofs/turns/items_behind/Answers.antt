use Rattle.std.proofs.Common.{◌≡◌, Some, None, rules, arith, ap, ◌∙◌, ◌∷◌, ◌++◌, []}
use Rattle.std.proofs.lemmas.Grind.{common_steps}
use Rattle.zim_parse_expression.specs.Turns.{comma_turn}
use Rattle.zim_parse_expression.proofs.TurnLaws.{items_begin, comma_goes_on, comma_fails, comma_stops, loop_goes_on, loop_stops, loop_fails, loop_ends}
use Rattle.zim_parse_expression.proofs.turns.items_behind.Goals as goal

pub loop-turn-init : goal.loop-turn-init
loop-turn-init g c = λ of is. items_begin _ _ _ _ _ c.len-turn-end.ensures.value (c.in_ok-add.ensures ∙ ap (λ l. l ++ c.args.first ∷ []) c.new-items.ensures)

pub returns-in-None : goal.returns-in-None
returns-in-None g c = λ of is.
    let h = loop_stops (comma_turn of) _ _ _ _ {left = c.loop-turn.tokens} (c.loop-turn.invariant of is) c.loop-turn-test.true (comma_stops of c.loop-turn.tokens c.in-None.ensures.0) in
    first_of (search (rules, h), grind (arith, common_steps, h))

pub returns-in_err-next-in-Some : goal.returns-in_err-next-in-Some
returns-in_err-next-in-Some g c = λ of is.
    let read = is _ _ _ c.item.ensures in
    let h = λ (none : of c.eat.new.self ≡ None). loop_fails (comma_turn of) _ _ _ _ (c.loop-turn.invariant of is) c.loop-turn-test.true (comma_fails of c.loop-turn.tokens c.in-Some.ensures none) in
    first_of (search (rules, h, read), grind (arith, common_steps, h, read))

pub loop-turn-preserved : goal.loop-turn-preserved
loop-turn-preserved g c = λ of is.
    let read = is _ _ _ c.item.ensures in
    let found : of c.eat.new.self ≡ Some (c.in_ok-next-in-Some.next, c.item.new.arg2) = first_of (search (rules, read), grind (arith, common_steps, read)) in
    let h = loop_goes_on (comma_turn of) _ _ _ _ (c.loop-turn.invariant of is) c.loop-turn-test.true (comma_goes_on of c.loop-turn.tokens c.in-Some.ensures found) in
    first_of (search (rules, h), grind (arith, common_steps, h))

pub returns : goal.returns
returns g c = λ of is. loop_ends _ _ _ _ _ (c.loop-turn.invariant of is) c.loop-turn-test.false
