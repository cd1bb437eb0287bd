-- A text as it is taken in pieces: the lines that have ended, and the bytes of the one that hasn't.
use Rattle.std.specs.Prelude.{◌≡◌, ℕ, ◌≤◌, List, [], ◌∷◌, ◌++◌, length, map, All, false, flat_map, ◌==◌}
use Rattle.zim_lex.specs.declared.lines.Line.{Line}
use Rattle.zim_lex.specs.Lines.{most_bytes, placed_lines}

-- no byte 10 is among the bytes
abbrev pub HasNoEnd : List ℕ → Type 0
HasNoEnd bytes = All (λ b. (b == 10) ≡ false) bytes

-- each line with its byte 10, and then the bytes of a line that hasn't ended
abbrev pub text_of : List Line → List ℕ → List ℕ
text_of lines bytes = flat_map (λ line. line.bytes ++ 10 ∷ []) lines ++ bytes

-- the lines are numbered from 1 and are lines, and the text isn't past the limit
pub record IsText (lines : List Line) (bytes : List ℕ) : Type 0 where
  pub numbered : lines ≡ placed_lines 0 1 (map (λ line. line.bytes) lines)
  pub ended : All (λ line. HasNoEnd line.bytes) lines
  pub unended : HasNoEnd bytes
  pub short : length (text_of lines bytes) ≤ most_bytes
