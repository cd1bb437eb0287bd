-- What the text of a table says: which column of the files stands for which declared column, and the factors of the
-- objective.
use Rattle.std.specs.Prelude.{ℕ, ℤ, ◌+◌, pos, neg_ℤ, Bool, true, false, ◌&&◌, ◌==◌, if◌then◌else◌, List, [], ◌∷◌, map, Option, Some, None, is_some, option_map, option_and_then, codes}
use Rattle.std.specs.List.{filter_map}
use Rattle.std.specs.Cmp.Lexicographic.{pointwise}
use Rattle.std.specs.Str.{bytes_eq}
use Rattle.zim_rational.specs.Rational.{Rational}
use Rattle.zim_instance.specs.Instance.{Point, number_named}
use Rattle.zim_fields.specs.Fields.{Field, lines, fields}
use Rattle.zim_fields.specs.Numbers.{from_one_of}
use Rattle.zim_table.specs.Tuples.{Component, fraction_of, read_tuple}

-- A column of the files, and the name and the index of the declared column for which it stands; without index the
-- tuple is empty.
pub record Pair : Type 0 where
  pub column : Field
  pub name : Field
  pub tuple : List Component

-- What a table says: the declared columns in order, and the factors of the LP's and the MPS's objective.
pub record Table : Type 0 where
  pub pairs : List Pair
  pub lp_factor : ℤ
  pub mps_factor : ℤ

-- The lines behind the objective's: a declared column with its number, the priority and the start value of the column of a
-- number, a helper column with its number, the offset's column, a row with its number, the end.
pub data Line : Type 0 where
  Declared : ℕ → Pair → Line
  Priority : ℕ → Line
  StartValue : ℕ → Line
  Helper : ℕ → Line
  Offset : Line
  RowOf : ℕ → Line
  End : Line

-- Two fields have these words.
abbrev pub are_words : List (List ℕ) → List Field → Bool
are_words words line = pointwise bytes_eq line words

-- The number of a name that is a letter and a number from 1.
abbrev pub number_behind : ℕ → Field → Option ℕ
number_behind letter [] = None
number_behind letter (b ∷ digits) = if b == letter then from_one_of digits else None

-- The J of `xJ`
abbrev pub column_number : Field → Option ℕ
column_number field = number_behind 120 field

-- The I of `rI`
abbrev pub row_number : Field → Option ℕ
row_number field = number_behind 114 field

-- The line of a declared column, whose field in the files and name are given.
abbrev pub declared_line : Field → Field → List Component → Option Line
declared_line column name components =
    option_map (λ (j : ℕ). Declared j (record { column = column; name = name; tuple = components })) (column_number column)

-- `column xJ NAME` and `column xJ NAME <..>`
abbrev pub read_column : List Field → Option Line
read_column (column ∷ name ∷ []) = declared_line column name []
read_column (column ∷ name ∷ tuple ∷ []) = option_and_then (declared_line column name) (read_tuple tuple)
read_column _ = None

-- `priority xJ q` or `startval xJ q`
abbrev pub read_detail : (ℕ → Line) → List Field → Option Line
read_detail detail (column ∷ number ∷ []) = if is_some (fraction_of number) then option_map detail (column_number column) else None
read_detail detail _ = None

-- `helper xJ`
abbrev pub read_helper : List Field → Option Line
read_helper (column ∷ []) = option_map Helper (column_number column)
read_helper _ = None

-- `row rI NAME K F`, where K and F are from 1
abbrev pub read_row : List Field → Option Line
read_row (row ∷ name ∷ place ∷ factor ∷ []) =
    if is_some (from_one_of place) && is_some (from_one_of factor) then option_map RowOf (row_number row) else None
read_row _ = None

-- A line by its first word.
abbrev pub read_line : List Field → Option Line
read_line [] = None
read_line (word ∷ line) =
    if bytes_eq word (codes "column") then read_column line
    else if bytes_eq word (codes "priority") then read_detail Priority line
    else if bytes_eq word (codes "startval") then read_detail StartValue line
    else if bytes_eq word (codes "helper") then read_helper line
    else if are_words (codes "offset" ∷ codes "one" ∷ []) (word ∷ line) then Some Offset
    else if bytes_eq word (codes "row") then read_row line
    else if are_words (codes "end" ∷ []) (word ∷ line) then Some End
    else None

-- What each of some lines is read as, where each can be read.
abbrev pub read_lines : List (List Field) → Option (List Line)
read_lines [] = Some []
read_lines (line ∷ ls) = option_and_then (λ (first : Line). option_map (λ (others : List Line). first ∷ others) (read_lines ls)) (read_line line)

-- What the lines so far allow next. Columns: so many stand, and of the last one a priority may be said, and a start value.
-- Rows: so many stand.
pub data Stage : Type 0 where
  Columns : ℕ → Bool → Bool → Stage
  Rows : ℕ → Stage

-- The stage after a line, if the line may come: columns and helpers are numbered without a gap and stand before rows, which are
-- too; a priority or a start value stands behind its declared column, at most one of each; the offset's column is the last one.
abbrev pub stage_after : Stage → Line → Option Stage
stage_after (Columns last priority start) (Declared j _) = if j == last + 1 then Some (Columns j true true) else None
stage_after (Columns last priority start) (Priority j) = if priority && j == last then Some (Columns last false start) else None
stage_after (Columns last priority start) (StartValue j) = if start && j == last then Some (Columns last priority false) else None
stage_after (Columns last priority start) (Helper j) = if j == last + 1 then Some (Columns j false false) else None
stage_after (Columns last priority start) Offset = Some (Rows 0)
stage_after (Columns last priority start) (RowOf i) = if i == 1 then Some (Rows 1) else None
stage_after (Columns last priority start) End = None
stage_after (Rows last) (RowOf i) = if i == last + 1 then Some (Rows i) else None
stage_after (Rows last) (Declared j _) = None
stage_after (Rows last) (Priority j) = None
stage_after (Rows last) (StartValue j) = None
stage_after (Rows last) (Helper j) = None
stage_after (Rows last) Offset = None
stage_after (Rows last) End = None

-- The further lines are all right at the stage, if there is one.
abbrev pub goes_on : (Stage → Bool) → Option Stage → Bool
goes_on further None = false
goes_on further (Some stage) = further stage

-- The lines come in their order, and the end is the last one.
abbrev pub are_in_order : Stage → List Line → Bool
are_in_order stage [] = false
are_in_order stage (End ∷ []) = true
are_in_order stage (line ∷ ls) = goes_on (λ (next : Stage). are_in_order next ls) (stage_after stage line)

-- `objective minimize NAME`, `objective maximize NAME` and `objective none`: whether it says to maximise
abbrev pub read_objective : List Field → Option Bool
read_objective (word ∷ none ∷ []) = if bytes_eq word (codes "objective") && bytes_eq none (codes "none") then Some false else None
read_objective (word ∷ aim ∷ name ∷ []) =
    if bytes_eq word (codes "objective") && bytes_eq aim (codes "minimize") then Some false
    else if bytes_eq word (codes "objective") && bytes_eq aim (codes "maximize") then Some true
    else None
read_objective _ = None

-- The number's field of `factor lp F` and `factor mps F`
abbrev pub read_factor : List ℕ → List Field → Option Field
read_factor format (word ∷ of ∷ number ∷ []) =
    if bytes_eq word (codes "factor") && bytes_eq of format then Some number else None
read_factor format _ = None

-- The declared column of a line, if it is of one.
abbrev pub pair_of : Line → Option Pair
pair_of (Declared _ pair) = Some pair
pair_of (Priority _) = None
pair_of (StartValue _) = None
pair_of (Helper _) = None
pair_of Offset = None
pair_of (RowOf _) = None
pair_of End = None

-- The table of the lines behind the first four, with the two factors.
abbrev pub table_of : List (List Field) → ℤ → ℤ → Option Table
table_of ls lp mps =
    option_and_then
    (λ (read : List Line). if are_in_order (Columns 0 false false) read then Some (record { pairs = filter_map pair_of read; lp_factor = lp; mps_factor = mps }) else None)
    (read_lines ls)

-- The same by the fields of the factors: the LP's is from 1, and the MPS's is the same, behind a minus where the objective is
-- maximised.
abbrev pub table_by : List (List Field) → Field → Field → Bool → Option Table
table_by ls lp mps maximises =
    option_and_then
    (λ (n : ℕ). if bytes_eq mps (if maximises then 45 ∷ lp else lp) then table_of ls (pos n) (if maximises then neg_ℤ (pos n) else pos n) else None)
    (from_one_of lp)

-- `zimplc table 1`, the factors, the objective, and the other lines.
abbrev pub read_table : List (List Field) → Option Table
read_table (first ∷ lp ∷ mps ∷ objective ∷ ls) =
    if are_words (codes "zimplc" ∷ codes "table" ∷ codes "1" ∷ []) first
    then option_and_then (λ (f : Field). option_and_then (λ (g : Field). option_and_then (table_by ls f g) (read_objective objective)) (read_factor (codes "mps") mps)) (read_factor (codes "lp") lp)
    else None
read_table _ = None

-- The last line of a text is ended.
abbrev pub is_ended : List ℕ → Bool
is_ended [] = false
is_ended (b ∷ []) = b == 10
is_ended (_ ∷ b ∷ bytes) = is_ended (b ∷ bytes)

-- The table that a text is, if it is one.
abbrev pub table : List ℕ → Option Table
table text = if is_ended text then read_table (map fields (lines text)) else None

-- The numbers of a point of the files for the declared columns, in order: each has that of its column in the files.
abbrev pub numbers_declared : Table → Point → List Rational
numbers_declared said point = map (λ (pair : Pair). number_named point pair.column) said.pairs
