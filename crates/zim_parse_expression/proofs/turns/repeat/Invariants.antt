-- The items so far, and those that the turns that are left read.
use Rattle.std.proofs.Common.{◌≡◌, ◌-◌}
use Rattle.zim_parse_expression.specs.Outcome.{IsTurn}
use Rattle.zim_parse_expression.specs.Turns.{Turn, repeat, prepend}
use Rattle.zim_parse_expression.proofs.turns.repeat.Given as goal

abbrev pub invariant-loop-turn : goal.invariant-loop-turn
invariant-loop-turn g l = (of : Turn g.row.A.Denot) → IsTurn of (goal.T-post g l.turn) → repeat of l.turns l.fn.tokens ≡ prepend l.items (repeat of (l.turns - l._turn) l.tokens)
