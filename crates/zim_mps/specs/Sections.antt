-- The lines of an MPS text, cut at its headings.
use Rattle.std.specs.Prelude.{ℕ, Bool, true, false, ◌&&◌, if◌then◌else◌, List, [], ◌∷◌, map, Option, Some, None, codes}
use Rattle.std.specs.Cmp.Lexicographic.{pointwise}
use Rattle.std.specs.Str.{bytes_eq}
use Rattle.zim_fields.specs.Fields.{Field, is_space_or_tab, lines, fields}

-- A line that does not begin with a blank is a heading; another one has fields.
pub data Line : Type 0 where
  Heading : List ℕ → Line
  Fields : List Field → Line

-- The first byte is a blank.
abbrev pub begins_with_blank : List ℕ → Bool
begins_with_blank [] = false
begins_with_blank (b ∷ _) = is_space_or_tab b

-- A heading, or a line of fields.
abbrev pub line_of : List ℕ → Line
line_of line = if begins_with_blank line then Fields (fields line) else Heading line

-- The lines of an MPS text.
abbrev pub mps_lines : List ℕ → List Line
mps_lines text = map line_of (lines text)

-- A heading with the lines up to the next one.
pub record Section : Type 0 where
  pub heading : List ℕ
  pub lines : List (List Field)

-- The lines before the first heading, and then the parts.
abbrev pub parts : List Line → List (List Field) × List Section
parts [] = ([], [])
parts (Heading heading ∷ ls) = ([], record { heading = heading; lines = (parts ls).0 } ∷ (parts ls).1)
parts (Fields line ∷ ls) = (line ∷ (parts ls).0, (parts ls).1)

-- The lines of the sections.
pub record Sections : Type 0 where
  pub rows : List (List Field)
  pub columns : List (List Field)
  pub rhs : List (List Field)
  pub ranges : List (List Field)
  pub bounds : List (List Field)

-- There are no lines.
abbrev pub is_none_of : List (List Field) → Bool
is_none_of [] = true
is_none_of (_ ∷ _) = false

-- Parts have these headings, in this order.
abbrev pub are_headed : List (List ℕ) → List Section → Bool
are_headed headings ps = pointwise bytes_eq (map (λ (p : Section). p.heading) ps) headings

-- The headings of a text without ranges.
abbrev pub plain_headings : List (List ℕ)
plain_headings = codes "NAME zimplc" ∷ codes "ROWS" ∷ codes "COLUMNS" ∷ codes "RHS" ∷ codes "BOUNDS" ∷ codes "ENDATA" ∷ []

-- The headings of a text with ranges.
abbrev pub ranged_headings : List (List ℕ)
ranged_headings = codes "NAME zimplc" ∷ codes "ROWS" ∷ codes "COLUMNS" ∷ codes "RHS" ∷ codes "RANGES" ∷ codes "BOUNDS" ∷ codes "ENDATA" ∷ []

-- The sections of parts that have the headings in their order, of which the first and the last have no lines.
abbrev pub sections_of : List Section → Option Sections
sections_of (name ∷ rows ∷ columns ∷ rhs ∷ bounds ∷ end ∷ []) =
    if are_headed plain_headings (name ∷ rows ∷ columns ∷ rhs ∷ bounds ∷ end ∷ []) && (is_none_of name.lines && is_none_of end.lines)
    then Some (record { rows = rows.lines; columns = columns.lines; rhs = rhs.lines; ranges = []; bounds = bounds.lines })
    else None
sections_of (name ∷ rows ∷ columns ∷ rhs ∷ ranges ∷ bounds ∷ end ∷ []) =
    if are_headed ranged_headings (name ∷ rows ∷ columns ∷ rhs ∷ ranges ∷ bounds ∷ end ∷ []) && (is_none_of name.lines && is_none_of end.lines)
    then Some (record { rows = rows.lines; columns = columns.lines; rhs = rhs.lines; ranges = ranges.lines; bounds = bounds.lines })
    else None
sections_of _ = None

-- The sections of a text, which begins with its first heading.
abbrev pub read_sections : List ℕ → Option Sections
read_sections text = if is_none_of (parts (mps_lines text)).0 then sections_of (parts (mps_lines text)).1 else None
