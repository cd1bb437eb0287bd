-- The lines of a text, and the line of a byte.
use Rattle.std.specs.Prelude.{ℕ, ◌+◌, ◌<◌, List, [], ◌∷◌, length, take, count_by, sum_by, All, ◌≤◌, ◌==◌, if◌then◌else◌}
use Rattle.std.specs.List.{slice_split}
use Rattle.zim_lex.specs.declared.lines.Line.{Line}

-- how many bytes the files of a model may have together
abbrev pub most_bytes : ℕ
most_bytes = 67108864

-- the parts that line ends part, but for an empty last one: what follows the last line end is a line only where there is something
abbrev pub without_empty_last : List (List ℕ) → List (List ℕ)
without_empty_last [] = []
without_empty_last (part ∷ []) = if length part == 0 then [] else part ∷ []
without_empty_last (part ∷ next ∷ parts) = part ∷ without_empty_last (next ∷ parts)

-- the lines of a text, each without the byte 10 that ends it
unfoldable pub lines_of : List ℕ → List (List ℕ)
lines_of text = without_empty_last (slice_split (λ b. b == 10) text)

-- the line, from 1, in which the byte at a position stands; a byte 10 stands in the line that it ends
abbrev pub line_of_byte : List ℕ → ℕ → ℕ
line_of_byte text at = count_by (λ b. b == 10) (take at text) + 1

-- the lines of a file by its number, counted on from a line
abbrev pub placed_lines : ℕ → ℕ → List (List ℕ) → List Line
placed_lines file number [] = []
placed_lines file number (line ∷ lines) = record { place = record { file = file; line = number }; bytes = line } ∷ placed_lines file (number + 1) lines

-- how many bytes some lines have together
abbrev pub bytes_of : List Line → ℕ
bytes_of lines = sum_by (λ line. length line.bytes) lines

-- lines that are within the limit and in so many files
pub record AreWithin (lines : List Line) (files : ℕ) : Type 0 where
  pub bytes : bytes_of lines ≤ most_bytes
  pub places : All (λ line. line.place.file < files) lines
