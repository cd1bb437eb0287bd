-- What a statement asks of a data file, and what it makes of the rows that it gets.
use Rattle.std.specs.Prelude.{ℕ, List, [], ◌∷◌, Option, Some, None, Result, Ok, Err, unsigned_abs, if◌then◌else◌}
use Rattle.std.specs.FinMap as map
use Rattle.zim_answer.specs.Answer.{Answer, ◌>>=◌, goes}
use Rattle.zim_fault.specs.declared.faults.Fault.{Fault}
use Rattle.zim_fault.specs.declared.faults.Place.{Place}
use Rattle.zim_fault.specs.declared.kinds.Kind.{Kind}
use Rattle.zim_fault.specs.declared.kinds.Kind.TheVariants.{WrongKind, NotInteger, BadTemplate}
use Rattle.zim_fault.specs.declared.words.Word.{Word}
use Rattle.zim_fault.specs.declared.words.Word.TheVariants as words
use Rattle.zim_functions.specs.Numbers.{is_natural}
use Rattle.zim_gate.specs.Folder.{HeldFiles}
use Rattle.zim_meaning.specs.Operations.{number_of_value}
use Rattle.zim_meaning.specs.Value.{value}
use Rattle.zim_meaning.specs.World.{World, at_place}
use Rattle.zim_meaning.specs.declared.values.Value as values
use Rattle.zim_meaning.specs.declared.values.Value.TheVariants as of_value
use Rattle.zim_read.specs.Rows.{Manner, data_rows}
use Rattle.zim_read.specs.Templates.{template_of}
use Rattle.zim_read.specs.declared.rows.DataRow.{DataRow}
use Rattle.zim_read.specs.declared.templates.ReadKind.{ReadKind}
use Rattle.zim_read.specs.declared.templates.Template.{Template}
use Rattle.zim_sets.specs.Insertion.{inserted}
use Rattle.zim_tuples.specs.declared.elements.Elem.{Elem}
use Rattle.zim_typed.specs.declared.constant.Const.{Const}
use Rattle.zim_typed.specs.declared.statement.TReading.{TReading}

-- ---- why a statement stops

-- a statement stops at its first fault, or where no file has the name that it opens
pub data StatementStop : Type 0 where
  AtFault : Fault → StatementStop
  NoFile : List ℕ → StatementStop

-- the same answer, where a statement stops at its fault
abbrev pub or_stop : {A : Type 0} → Answer A Fault → Answer A StatementStop
or_stop (Ok answer) = Ok answer
or_stop (Err fault) = Err (AtFault fault)

-- ---- what is asked

-- the text that a value is
abbrev pub text_of_value : values.Value → Result (List ℕ) Kind
text_of_value (of_value.Number q) = Err WrongKind
text_of_value (of_value.Text s) = Ok s
text_of_value (of_value.Truth b) = Err WrongKind
text_of_value (of_value.Set a) = Err WrongKind

-- the whole number from 0 up that a value is
abbrev pub natural_of_value : values.Value → Result ℕ Kind
natural_of_value v = number_of_value v >>= λ q. if is_natural q then Ok (unsigned_abs q.numer) else Err NotInteger

-- what the options of a `read` say: how many lines are skipped, how many are used at most, and which bytes begin a comment
pub record ReadOptions : Type 0 where
  pub skip : ℕ
  pub uses : Option ℕ
  pub comment : List ℕ

-- without options no line is skipped, each is used, and `#` alone begins a comment
abbrev pub no_options : ReadOptions
no_options = record { skip = 0; uses = None; comment = 35 ∷ [] }

-- the options so far with one more, which a word names
abbrev pub with_option : ReadOptions → Word → values.Value → Result ReadOptions Kind
with_option options words.WSkip v = natural_of_value v >>= λ n. Ok (record { skip = n; uses = options.uses; comment = options.comment })
with_option options words.WUse v = natural_of_value v >>= λ n. Ok (record { skip = options.skip; uses = Some n; comment = options.comment })
with_option options words.WComment v = text_of_value v >>= λ s. Ok (record { skip = options.skip; uses = options.uses; comment = s })
with_option options _ v = Err WrongKind

-- the same, where the option's operand is evaluated; it is wrong at the word
abbrev pub with_written_option : World → ReadOptions → Place × Word × Const → Answer ReadOptions Fault
with_written_option world options (place, name, operand) = value world [] operand >>= λ v. at_place place (with_option options name v)

-- the template of this kind that a text spells
abbrev pub template_or_bad : ReadKind → List ℕ → Result Template Kind
template_or_bad kind text = spelled (template_of kind text)
  where
    spelled : Option Template → Result Template Kind
    spelled (Some template) = Ok template
    spelled None = Err BadTemplate

-- what is asked of a data file: the rows of the file of this name, its lines being read in this manner, and so many being used at most
pub record FileRequest : Type 0 where
  pub name : List ℕ
  pub manner : Manner
  pub uses : Option ℕ

-- what a `read` asks: the file's name and the template are evaluated, then the options in their order, each being looked at as soon as it is
-- evaluated; then the template is parsed
unfoldable pub request_of : World → ReadKind → TReading → Answer FileRequest Fault
request_of world kind reading = do
  v ← value world [] reading.file
  name ← at_place reading.place (text_of_value v)
  w ← value world [] reading.template
  text ← at_place reading.place (text_of_value w)
  options ← goes (with_written_option world) no_options reading.options
  template ← at_place reading.place (template_or_bad kind text)
  Ok (record { name = name; manner = record { template = template; skip = options.skip; comment = options.comment }; uses = options.uses })

-- ---- what is given

-- where a statement gets rows: the number that the next opened file has, and the rows that a request gives
pub record RowSource : Type 0 where
  pub file : ℕ
  pub rows : FileRequest → Answer (List DataRow) StatementStop

-- the rows that a file with this number gives where it has these bytes; nothing is there where no file has the name
abbrev pub rows_in_file : ℕ → FileRequest → Option (List ℕ) → Answer (List DataRow) StatementStop
rows_in_file file request None = Err (NoFile request.name)
rows_in_file file request (Some bytes) = or_stop (data_rows file request.manner request.uses bytes)

-- the files that are held give their rows, where the next opened file has this number
abbrev pub rows_held : HeldFiles → ℕ → RowSource
rows_held files file = record { file = file; rows = λ request. rows_in_file file request (map.get files request.name) }

-- the place of a row
abbrev pub row_place : ℕ → DataRow → Place
row_place file row = record { file = file; line = row.line }

-- a set with the tuple of a row, which is too much at that row
abbrev pub with_row_tuple : ℕ → List (List Elem) → DataRow → Answer (List (List Elem)) Fault
with_row_tuple file tuples row = at_place (row_place file row) (inserted tuples row.items)

-- the set of the rows' tuples, the first of equal ones
unfoldable pub set_of_rows : ℕ → List DataRow → Answer (List (List Elem)) Fault
set_of_rows file rows = goes (with_row_tuple file) [] rows
