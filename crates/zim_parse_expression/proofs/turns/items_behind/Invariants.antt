-- The items so far, and those that the turns that are left read.
use Rattle.std.proofs.Common.{◌≡◌, ◌-◌, length}
use Rattle.zim_parse_expression.specs.Outcome.{IsParser}
use Rattle.zim_parse_expression.specs.Parser.{Parser, items_behind}
use Rattle.zim_parse_expression.specs.Turns.{repeat, prepend, comma_turn}
use Rattle.zim_parse_expression.proofs.turns.items_behind.Given as goal

abbrev pub invariant-loop-turn : goal.invariant-loop-turn
invariant-loop-turn g l = (of : Parser g.row.A.Denot) → IsParser of (goal.I-post g l.item) →
    items_behind of (length l.fn.tokens) l.fn.first l.fn.tokens ≡ prepend l.items (repeat (comma_turn of) (l._turn-end - l._turn) l.tokens)
