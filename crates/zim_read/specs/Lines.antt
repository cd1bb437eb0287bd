-- The lines of a data file, and the fields of a line.
use Rattle.std.specs.Prelude.{ℕ, ◌-◌, ◌++◌, ◌==◌, ◌||◌, ◌&&◌, Bool, true, false, not, if◌then◌else◌, nat_eq, List, [], ◌∷◌, length, take, filter}
use Rattle.std.specs.List.{slice_split, onto_first, list_any, ends_with}

-- How many bytes a data file may have.
abbrev pub most_file_bytes : ℕ
most_file_bytes = 67108864

-- How many bytes a line of a data file may have, without its end.
abbrev pub most_line_bytes : ℕ
most_line_bytes = 65536

-- ---- the lines of a file

-- A line without the byte 13 at its end, if one stands there.
unfoldable pub without_return : List ℕ → List ℕ
without_return line = if ends_with nat_eq line (13 ∷ []) then take (length line - 1) line else line

-- Of the parts that line ends part, those that a line end follows, each without the byte 13 at its end.
abbrev pub ended_parts : List (List ℕ) → List (List ℕ)
ended_parts [] = []
ended_parts (part ∷ []) = []
ended_parts (part ∷ next ∷ parts) = without_return part ∷ ended_parts (next ∷ parts)

-- Of the same parts, the last one.
abbrev pub last_part : List (List ℕ) → List ℕ
last_part [] = []
last_part (part ∷ []) = part
last_part (part ∷ next ∷ parts) = last_part (next ∷ parts)

-- The lines that end in a text, without what ends them: a byte 10, or a byte 13 and a byte 10.
unfoldable pub ended_lines : List ℕ → List (List ℕ)
ended_lines text = ended_parts (slice_split (λ b. b == 10) text)

-- What follows the last line end.
unfoldable pub behind_last_end : List ℕ → List ℕ
behind_last_end text = last_part (slice_split (λ b. b == 10) text)

-- The line without an end, if there is one.
abbrev pub line_without_end : List ℕ → List (List ℕ)
line_without_end [] = []
line_without_end (b ∷ bs) = (b ∷ bs) ∷ []

-- The lines of a data file. The last one may lack its end.
abbrev pub data_lines : List ℕ → List (List ℕ)
data_lines bytes = ended_lines bytes ++ line_without_end (behind_last_end bytes)

-- ---- the fields of a line

-- A double quote.
abbrev pub is_double_quote : ℕ → Bool
is_double_quote b = b == 34

-- A quotation is open behind a byte: a double quote opens one, or closes the one that is open before it.
unfoldable pub is_open_behind : Bool → ℕ → Bool
is_open_behind inside b = if is_double_quote b then not inside else inside

-- What stands before the first comment byte outside quotations, where `inside` says whether one is open in front.
unfoldable pub before_comment : List ℕ → Bool → List ℕ → List ℕ
before_comment comment inside [] = []
before_comment comment inside (b ∷ bs) =
    if not inside && list_any (λ c. c == b) comment then [] else b ∷ before_comment comment (is_open_behind inside b) bs

-- A quotation is open at the end: the number of double quotes is odd.
unfoldable pub is_left_open : Bool → List ℕ → Bool
is_left_open inside [] = inside
is_left_open inside (b ∷ bs) = is_left_open (is_open_behind inside b) bs

-- A blank, a tab, `,`, `;` or `:`.
abbrev pub is_separator : ℕ → Bool
is_separator b = (b == 32) || (b == 9) || (b == 44) || (b == 59) || (b == 58)

-- The parts that the separators outside quotations part.
unfoldable pub separated : Bool → List ℕ → List (List ℕ)
separated inside [] = [] ∷ []
separated inside (b ∷ bs) =
    if not inside && is_separator b then [] ∷ separated inside bs else onto_first b (separated (is_open_behind inside b) bs)

-- There is a byte or more.
abbrev pub has_bytes : List ℕ → Bool
has_bytes [] = false
has_bytes (b ∷ bs) = true

-- The fields of a line, with their quotes: its longest runs of bytes that have no separator outside quotations.
unfoldable pub line_fields : List ℕ → List (List ℕ)
line_fields line = filter has_bytes (separated false line)

-- The text of a field, without its quotes.
unfoldable pub unquoted : List ℕ → List ℕ
unquoted field = filter (λ b. not (is_double_quote b)) field
