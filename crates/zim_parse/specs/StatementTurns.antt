-- The lists of statements that are read turn by turn: options of `read`, and bounds.
use Rattle.std.specs.Prelude.{List, Bool, Option, Some, None}
use Rattle.zim_fault.specs.declared.faults.Place.{Place}
use Rattle.zim_fault.specs.declared.tokens.Placed.{Placed}
use Rattle.zim_fault.specs.declared.words.Word.{Word}
use Rattle.zim_tree.specs.declared.expr.Expr.{Expr}
use Rattle.zim_tree.specs.declared.stmt.Limit.{Limit}
use Rattle.zim_tree.specs.Levels.{sum}
use Rattle.zim_parse_expression.specs.Parser.{Parsed, Inner, and_then}
use Rattle.zim_parse_expression.specs.StatementTokens.{option_in, limit_in}
use Rattle.zim_parse_expression.specs.Outcome.{found_next}
use Rattle.zim_parse_expression.specs.Turns.{Turn}

-- an option of `read`, by its word, that was found or not
abbrev pub option_found : Inner → Option (Place × Word × List Placed) → List Placed → Parsed (Option (Place × Word × Expr))
option_found inner None ts = Some (None, ts)
option_found inner (Some x) ts = and_then (inner sum x.2) (λ operand behind. Some (Some (x.0, x.1, operand), behind))

-- one more option of `read`
unfoldable pub option_turn : Inner → Turn (Place × Word × Expr)
option_turn inner ts = option_found inner (found_next option_in ts) ts

-- a bound, by its sign, that was found or not
abbrev pub limit_found : Inner → Option (Place × Bool × List Placed) → List Placed → Parsed (Option Limit)
limit_found inner None ts = Some (None, ts)
limit_found inner (Some x) ts = and_then (inner sum x.2) (λ side behind. Some (Some (record { place = x.0; lower = x.1; side = side }), behind))

-- one more bound
unfoldable pub limit_turn : Inner → Turn Limit
limit_turn inner ts = limit_found inner (found_next limit_in ts) ts
