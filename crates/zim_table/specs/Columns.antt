-- Declared columns by position and number.
use Rattle.std.specs.Prelude.{ℕ, ◌+◌, ◌==◌, if◌then◌else◌, Option, Some, None}
use Rattle.zim_columns.specs.declared.declared.Declared.{Declared}

-- What is there, if it is a column of this number.
abbrev pub numbered : ℕ → Option Declared → Option Declared
numbered j None = None
numbered j (Some declared) = if declared.column == j then Some declared else None

-- The position of the next declared column: one further where there is one here.
abbrev pub next_position : ℕ → Option Declared → ℕ
next_position position None = position
next_position position (Some declared) = position + 1
