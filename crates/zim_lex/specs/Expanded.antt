-- The lines of a model with each include line replaced by the lines of the file that it names.
use Rattle.std.specs.Prelude.{ℕ, zero, suc, ◌-◌, List, [], ◌∷◌, ◌++◌, length, Option, None, Some, nat_lt, if◌then◌else◌, Ok, Err}
use Rattle.std.specs.FinMap as map
use Rattle.zim_answer.specs.Answer.{Answer, ◌>>=◌, goes}
use Rattle.zim_fault.specs.declared.faults.Fault as faults
use Rattle.zim_fault.specs.declared.kinds.Kind.TheVariants.{IncludeDeep, LongFile}
use Rattle.zim_gate.specs.Folder.{HeldFiles}
use Rattle.zim_lex.specs.declared.expanding.Expansion.{Expansion}
use Rattle.zim_lex.specs.declared.lines.Line.{Line}
use Rattle.zim_lex.specs.declared.lines.Loaded.{Loaded}
use Rattle.zim_lex.specs.Includes.{included}
use Rattle.zim_lex.specs.Lines.{most_bytes, lines_of, line_of_byte, placed_lines}

-- why a model has no lines
pub data Refusal : Type 0 where
  -- no file has this name; the files of the other names were opened before
  Missing : List ℕ → List (List ℕ) → Refusal
  -- this fault is met, among the files of these names
  At : faults.Fault → List (List ℕ) → Refusal

-- what an include line that names a file does
abbrev pub Including : Type 0
Including = Expansion → Line → List ℕ → Answer Expansion Refusal

-- a line is taken as it is, or the file that it names is included in its place
abbrev pub taken_as : Including → Expansion → Line → Option (List ℕ) → Answer Expansion Refusal
taken_as include so_far line None = Ok (record { lines = so_far.lines ++ line ∷ []; files = so_far.files; room = so_far.room })
taken_as include so_far line (Some name) = include so_far line name

-- a line is taken, or what it includes
abbrev pub taken : Including → Expansion → Line → Answer Expansion Refusal
taken include so_far line = taken_as include so_far line (included line.bytes)

-- a file is counted as the next one and read whole, within the room that is left; then its lines are taken in order
abbrev pub with_text : Including → Expansion → List ℕ → List ℕ → Answer Expansion Refusal
with_text include so_far name text =
    if nat_lt so_far.room (length text)
    then Err (At (record { place = record { file = length so_far.files; line = line_of_byte text so_far.room }; kind = LongFile }) (so_far.files ++ name ∷ []))
    else goes (taken include) (record { lines = so_far.lines; files = so_far.files ++ name ∷ []; room = so_far.room - length text }) (placed_lines (length so_far.files) 1 (lines_of text))

-- the same of what a name holds
abbrev pub with_held : Including → Expansion → List ℕ → Option (List ℕ) → Answer Expansion Refusal
with_held include so_far name None = Err (Missing name so_far.files)
with_held include so_far name (Some text) = with_text include so_far name text

-- a file is opened, anew each time
abbrev pub opened : HeldFiles → Including → Expansion → List ℕ → Answer Expansion Refusal
opened files include so_far name = with_held include so_far name (map.get files name)

-- how deep files may include one another, the model itself being the first
abbrev pub most_depth : ℕ
most_depth = 16

-- what an include line does in a file below which so many more depths are allowed: where none is, it is a fault
unfoldable pub includes : ℕ → HeldFiles → Including
includes zero files so_far line name = Err (At (record { place = line.place; kind = IncludeDeep }) so_far.files)
includes (suc left) files so_far line name = opened files (includes left files) so_far name

-- nothing is loaded yet
abbrev pub nothing : Expansion
nothing = record { lines = []; files = []; room = most_bytes }

-- the lines and files of the model that has this name among some files, or why there are none
unfoldable pub model_in : HeldFiles → List ℕ → Answer Loaded Refusal
model_in files name = opened files (includes (most_depth - 1) files) nothing name >>= λ all. Ok (record { lines = all.lines; files = all.files })
