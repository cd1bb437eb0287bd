-- Words of contracts within the crate.
use Rattle.std.specs.Prelude.{◌≡◌, ℕ, ◌+◌, Bool, true, false, nat_le, min, List, [], ◌∷◌, ◌++◌, length, take, map, Option, option_map, Result, Ok, Err, IfSome}
use Rattle.std.specs.Borrow.{Bor}
use Rattle.std.specs.List.{enumerate_from}
use Rattle.std.specs.Str.Parse.{digits_value}
use Rattle.zim_answer.specs.Answer.{Answer, ◌>>=◌, goes}
use Rattle.zim_fault.specs.declared.faults.Fault.{Fault}
use Rattle.zim_fault.specs.declared.kinds.Kind.{Kind}
use Rattle.zim_fault.specs.declared.kinds.Kind.TheVariants.{LongFile}
use Rattle.zim_decimal.specs.Literal.{field_answer}
use Rattle.zim_tuples.specs.declared.elements.Elem.{Elem}
use Rattle.zim_read.specs.declared.bytes.ReadBytes.{ReadBytes}
use Rattle.zim_read.specs.declared.bytes.ReadStop.{ReadStop}
use Rattle.zim_read.specs.declared.bytes.ReadStop.TheVariants.{Failed, Memory}
use Rattle.zim_read.specs.declared.rows.DataRow.{DataRow}
use Rattle.zim_read.specs.declared.rows.LineManner.{LineManner}
use Rattle.zim_read.specs.declared.rows.Taken.{Taken}
use Rattle.zim_read.specs.declared.templates.Field.{Field}
use Rattle.zim_read.specs.declared.templates.FieldKind.{FieldKind}
use Rattle.zim_read.specs.Lines.{most_file_bytes, ended_lines, data_lines}
use Rattle.zim_read.specs.Rows.{Manner, number_element, with_field, fault_at, line_taken, lines_taken}
use Rattle.zim_read.specs.Templates.{field_of, last_position}

-- The texts that are borrowed.
abbrev pub lent : List (Bor (List ℕ)) → List (List ℕ)
lent texts = map (λ (text : Bor (List ℕ)). text.now) texts

-- Two texts that are borrowed.
abbrev pub seen_both : Bor (List ℕ) × Bor (List ℕ) → List ℕ × List ℕ
seen_both (one, other) = (one.now, other.now)

-- How the lines of a file are read, as the code holds it.
abbrev pub manner_of : LineManner → Manner
manner_of manner = record { template = manner.template.now; skip = manner.skip; comment = manner.comment.now }

-- The number that digits spell, or one past the last position where it is greater.
abbrev pub value_within : List ℕ → ℕ
value_within digits = min (digits_value 10 digits) (last_position + 1)

-- Fields, and the one that a text spells.
abbrev pub with_spelled : List Field → List ℕ → Option (List Field)
with_spelled fields text = option_map (λ (field : Field). fields ++ field ∷ []) (field_of text)

-- The number of a text.
abbrev pub number_field : List ℕ → Answer Elem Kind
number_field text = number_element (field_answer text)

-- Rows, and those of each field as a tuple of its own.
abbrev pub with_each : FieldKind → ℕ → List DataRow → List (List ℕ) → Answer (List DataRow) Kind
with_each kind number rows line = goes (with_field kind number) rows line

-- What is kept of a file: its bytes up to the limit, and whether these are all.
abbrev pub kept_of : List ℕ → ReadBytes
kept_of bytes = record { bytes = take most_file_bytes bytes; is_whole = nat_le (length bytes) most_file_bytes }

-- What reading says of the file that was open, where that is told.
abbrev pub SaysKept : Option (List ℕ) → Type 0 → Result ReadBytes ReadStop → Type 0
SaysKept opened rose (Ok read) = IfSome opened (λ bytes. read ≡ kept_of bytes)
SaysKept opened rose (Err Failed) = rose
SaysKept opened rose (Err Memory) = Unit {0}

-- The lines that end in a text are taken.
abbrev pub ended_taken : ℕ → Manner → Taken → List ℕ → Answer Taken Fault
ended_taken file manner taken text = goes (line_taken file manner) taken (enumerate_from 1 (ended_lines text))

-- The rows of a file of which this is kept.
unfoldable pub rows_of_kept : ℕ → Manner → Option ℕ → Bool → List ℕ → Answer (List DataRow) Fault
rows_of_kept file manner uses true text = lines_taken file manner uses (data_lines text) >>= (λ taken. Ok taken.rows)
rows_of_kept file manner uses false text =
    lines_taken file manner uses (ended_lines text) >>= (λ taken. Err (fault_at file (length (ended_lines text) + 1) LongFile))
