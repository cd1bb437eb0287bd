-- The rows that a data file has by a template.
use Rattle.std.specs.Prelude.{ℕ, ◌+◌, ◌-◌, ◌||◌, ◌&&◌, Bool, false, if◌then◌else◌, nat_lt, nat_le, List, [], ◌∷◌, ◌++◌, length, take, Option, None, Some, option_map, slice_index_or, Result, Ok, Err}
use Rattle.std.specs.List.{enumerate_from, list_any}
use Rattle.zim_answer.specs.Answer.{Answer, ◌>>=◌, goes}
use Rattle.zim_fault.specs.declared.faults.Fault.{Fault}
use Rattle.zim_fault.specs.declared.kinds.Kind.{Kind}
use Rattle.zim_fault.specs.declared.kinds.Kind.TheVariants.{ShortLine, BadField, LongLine, LongFile, Past}
use Rattle.zim_rational.specs.Rational.{Rational}
use Rattle.zim_decimal.specs.Literal.{field_answer}
use Rattle.zim_tuples.specs.declared.elements.Elem.{Elem}
use Rattle.zim_tuples.specs.declared.elements.Elem.TheVariants as elem
use Rattle.zim_read.specs.declared.templates.FieldKind.{FieldKind}
use Rattle.zim_read.specs.declared.templates.FieldKind.TheVariants.{Number, Text}
use Rattle.zim_read.specs.declared.templates.Field.{Field}
use Rattle.zim_read.specs.declared.templates.Template.{Template}
use Rattle.zim_read.specs.declared.templates.Template.TheVariants.{Fields, Every}
use Rattle.zim_read.specs.declared.rows.DataRow.{DataRow}
use Rattle.zim_read.specs.declared.rows.Taken.{Taken}
use Rattle.zim_read.specs.Lines.{most_file_bytes, most_line_bytes, ended_lines, data_lines, before_comment, is_left_open, line_fields, unquoted}

-- ---- the elements of a line

-- The number of a field that was read as one, or what is wrong with the field.
abbrev pub number_element : {E : Type 0} → Result (Option Rational) E → Answer Elem Kind
number_element (Ok (Some q)) = Ok (elem.Number q)
number_element (Ok None) = Err BadField
number_element (Err past) = Err Past

-- A field of a line as an element of this kind: as a number, which it may not be and which may be past the limit, or as it stands there.
unfoldable pub element_of : FieldKind → List ℕ → Answer Elem Kind
element_of Number field = number_element (field_answer (unquoted field))
element_of Text field = Ok (elem.Text (unquoted field))

-- The field of a line at this position, which counts from 1.
abbrev pub field_at : List (List ℕ) → ℕ → List ℕ
field_at line at = slice_index_or line (at - 1) []

-- The element that a template's field takes of a line.
abbrev pub element_at : List (List ℕ) → Field → Answer Elem Kind
element_at line field = element_of field.kind (field_at line field.at)

-- Elements, and the one that the next field takes.
abbrev pub with_element : List (List ℕ) → List Elem → Field → Answer (List Elem) Kind
with_element line elements field = element_at line field >>= λ element. Ok (elements ++ element ∷ [])

-- The elements that fields of a template take of a line, in the template's order.
abbrev pub elements_at : List (List ℕ) → List Field → Answer (List Elem) Kind
elements_at line fields = goes (with_element line) [] fields

-- The element that the field of a value takes, if there is one.
unfoldable pub value_element : List (List ℕ) → Option Field → Answer (Option Elem) Kind
value_element line None = Ok None
value_element line (Some field) = element_at line field >>= λ value. Ok (Some value)

-- The line has no field at this position.
abbrev pub is_past_line : List (List ℕ) → Field → Bool
is_past_line line field = nat_lt (length line) field.at

-- The same of the field of a value, if there is one.
abbrev pub is_value_past_line : List (List ℕ) → Option Field → Bool
is_value_past_line line None = false
is_value_past_line line (Some field) = is_past_line line field

-- The line has fewer fields than the greatest position of a template's fields.
unfoldable pub is_short_line : List (List ℕ) → List Field → Option Field → Bool
is_short_line line index value = list_any (is_past_line line) index || is_value_past_line line value

-- ---- the rows of a line

-- Rows, and that of a field as a tuple of its own.
abbrev pub with_field : FieldKind → ℕ → List DataRow → List ℕ → Answer (List DataRow) Kind
with_field kind number rows field =
    element_of kind field >>= λ element. Ok (rows ++ record { line = number; items = element ∷ []; value = None } ∷ [])

-- Rows, and those that a template makes of the fields of the line with this number.
unfoldable pub with_fields : Template → ℕ → List DataRow → List (List ℕ) → Answer (List DataRow) Kind
with_fields (Every kind) number rows line = goes (with_field kind number) rows line
with_fields (Fields index value) number rows line = if is_short_line line index value then Err ShortLine else do
  items ← elements_at line index
  at ← value_element line value
  Ok (rows ++ record { line = number; items = items; value = at } ∷ [])

-- ---- the lines of a file

-- How the lines of a file are read: by which template, how many are skipped, and which bytes begin a comment.
pub record Manner : Type 0 where
  pub template : Template
  pub skip : ℕ
  pub comment : List ℕ

-- No more lines are used.
abbrev pub is_enough : Option ℕ → Bool
is_enough None = false
is_enough (Some left) = nat_le left 0

-- One line less is left to be used.
abbrev pub one_less : Option ℕ → Option ℕ
one_less left = option_map (λ n. n - 1) left

-- The rows of a line's fields are taken; a line without fields isn't used.
abbrev pub with_used : Manner → Taken → ℕ → List (List ℕ) → Answer Taken Kind
with_used manner taken number [] = Ok taken
with_used manner taken number (field ∷ fields) = do
  rows ← with_fields manner.template number taken.rows (field ∷ fields)
  Ok (record { rows = rows; left = one_less taken.left })

-- A line is taken: what a comment byte and those behind it aside, its quotations are closed, and its fields make rows.
unfoldable pub with_data_line : Manner → Taken → ℕ → List ℕ → Answer Taken Kind
with_data_line manner taken number line =
    if is_left_open false (before_comment manner.comment false line) then Err BadField
    else with_used manner taken number (line_fields (before_comment manner.comment false line))

-- A line in its turn. Behind the last line that is used, lines are no longer looked at; every other one may not be too long; one that
-- isn't skipped is taken.
unfoldable pub in_turn : Manner → Taken → ℕ → List ℕ → Answer Taken Kind
in_turn manner taken number line =
    if nat_lt manner.skip number && is_enough taken.left then Ok taken
    else (if nat_lt most_line_bytes (length line) then Err LongLine
    else (if nat_le number manner.skip then Ok taken else with_data_line manner taken number line))

-- A fault at a line of a file.
abbrev pub fault_at : ℕ → ℕ → Kind → Fault
fault_at file number kind = record { place = record { file = file; line = number }; kind = kind }

-- The same answer, with the fault at its line.
abbrev pub at_line : {A : Type 0} → ℕ → ℕ → Answer A Kind → Answer A Fault
at_line file number (Ok value) = Ok value
at_line file number (Err kind) = Err (fault_at file number kind)

-- A numbered line of a file in its turn.
unfoldable pub line_taken : ℕ → Manner → Taken → ℕ × List ℕ → Answer Taken Fault
line_taken file manner taken line = at_line file line.0 (in_turn manner taken line.0 line.1)

-- Nothing is taken yet, and so many lines may be used; without a number any.
abbrev pub untaken : Option ℕ → Taken
untaken uses = record { rows = []; left = uses }

-- Lines are taken one after another, numbered from 1, until the first fault.
abbrev pub lines_taken : ℕ → Manner → Option ℕ → List (List ℕ) → Answer Taken Fault
lines_taken file manner uses lines = goes (line_taken file manner) (untaken uses) (enumerate_from 1 lines)

-- The rows of a file of the given number, of which at most so many lines are used, or its first fault. Where the file is too long,
-- the lines that end before the first byte too many come first, and then the line that this byte stands in, with that fault.
unfoldable pub data_rows : ℕ → Manner → Option ℕ → List ℕ → Answer (List DataRow) Fault
data_rows file manner uses bytes =
    if nat_le (length bytes) most_file_bytes then lines_taken file manner uses (data_lines bytes) >>= (λ taken. Ok taken.rows)
    else lines_taken file manner uses (ended_lines (take most_file_bytes bytes)) >>= (λ taken.
    Err (fault_at file (length (ended_lines (take most_file_bytes bytes)) + 1) LongFile))
