-- When a text ends in the last line of a table.
use Rattle.std.specs.Prelude.{ℕ, List, ◌++◌, codes}

-- The last line of a text is `end`, with its line end: it is the only line, or a line end stands before it.
pub data EndsInEnd : List ℕ → Type 0 where
  only_line : EndsInEnd (codes "end\n")
  last_line : (before : List ℕ) → EndsInEnd (before ++ codes "\nend\n")
