-- The nesting of tokens: how many brackets, `if` and `vif` are open and how many loops began, at most.
use Rattle.std.specs.Prelude.{ℕ, ◌+◌, max, List, [], ◌∷◌}
use Rattle.zim_fault.specs.declared.tokens.Placed.{Placed}
use Rattle.zim_scan.specs.Nesting.{class_at, open_behind, loops_behind}

-- the greatest nesting before, between and behind these tokens, where so many brackets were open and so many loops begun before
unfoldable pub greatest_nesting : ℕ → ℕ → List Placed → ℕ
greatest_nesting open_before loops [] = open_before + loops
greatest_nesting open_before loops (t ∷ rest) = max (open_before + loops) (greatest_nesting (open_behind (class_at t) open_before) (loops_behind (class_at t) rest loops) rest)

-- the nesting of a statement's tokens: nothing is open before the first, and no loop began
abbrev pub nesting_of : List Placed → ℕ
nesting_of ts = greatest_nesting 0 0 ts
