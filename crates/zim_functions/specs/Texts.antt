-- Parts of texts.
use Rattle.std.specs.Prelude.{ℕ, List, take, drop}

-- at most so many bytes of a text from a position on, which is counted from 0: fewer where the text ends before, and none
-- where it ends before the position
abbrev pub substring : List ℕ → ℕ → ℕ → List ℕ
substring text from len = take len (drop from text)
