-- Reading the file that is open to its end.
use Rattle.std.specs.Prelude.{◌≡◌, ℕ, ◌+◌, ◌<◌, List, length, Option, IfSome, Result, Ok, Err}
use Rattle.zim_lex.specs.declared.reading.ReadText.{ReadText}
use Rattle.zim_lex.specs.declared.reading.ReadStop.{ReadStop}
use Rattle.zim_lex.specs.declared.reading.ReadStop.TheVariants.{Long, Failed, Memory}
use Rattle.zim_lex.specs.Lines.{lines_of, line_of_byte, placed_lines}

-- the whole text was read, and so much room is left
pub record IsWhole (room : ℕ) (text : List ℕ) (read : ReadText) : Type 0 where
  pub fits : length text + read.room ≡ room
  pub lines : read.lines ≡ placed_lines 0 1 (lines_of text)

-- the text has more bytes than there is room for; the line of the first one
pub record IsPast (room : ℕ) (text : List ℕ) (line : ℕ) : Type 0 where
  pub long : room < length text
  pub line_is : line ≡ line_of_byte text room

-- what reading says of the text that was open, where that is told
abbrev pub IsReadOf : ℕ → Option (List ℕ) → Type 0 → Result ReadText ReadStop → Type 0
IsReadOf room opened rose (Ok read) = IfSome opened (λ text. IsWhole room text read)
IsReadOf room opened rose (Err (Long line)) = IfSome opened (λ text. IsPast room text line)
IsReadOf room opened rose (Err Failed) = rose
IsReadOf room opened rose (Err Memory) = Unit {0}
