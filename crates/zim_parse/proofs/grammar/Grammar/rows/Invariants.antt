-- The rows so far, and those that the turns that are left read.
use Rattle.std.proofs.Common.{◌≡◌, ◌-◌}
use Rattle.zim_parse_expression.specs.Parser.{parse}
use Rattle.zim_parse.specs.StatementParser.{table_rows}
use Rattle.zim_parse_expression.specs.Turns.{prepend}
use Rattle.zim_parse.proofs.grammar.Grammar.rows.Given as goal

abbrev pub invariant-loop-turn : goal.invariant-loop-turn
invariant-loop-turn l =
    table_rows (parse l.self.depth) l.columns l.turns l.fn.tokens ≡ prepend l.rows (table_rows (parse l.self.depth) l.columns (l.turns - l._turn) l.tokens)
