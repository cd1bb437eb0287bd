-- What opening a file, taking a line and expanding a file do, whatever a folder tells and where it tells its files.
use Rattle.std.specs.Prelude.{◌≡◌, ℕ, ◌+◌, ◌≤◌, ◌<◌, ◌⊎◌, List, [], ◌∷◌, ◌++◌, length, All, Option, None, Some, IfSome, IfNone, Result, Ok, Err, IfOk, OnOk, ⊤}
use Rattle.std.specs.FinMap as map
use Rattle.zim_answer.specs.Answer.{Answer}
use Rattle.zim_fault.specs.declared.faults.Fault as faults
use Rattle.zim_fault.specs.declared.kinds.Kind.TheVariants.{IncludeDeep, LongFile}
use Rattle.zim_gate.specs.Counts.{Rose}
use Rattle.zim_gate.specs.Folder.{HeldFiles, FolderState, OnlyRead}
use Rattle.zim_lex.specs.declared.expanding.Expansion.{Expansion}
use Rattle.zim_lex.specs.declared.expanding.Stop.{Stop}
use Rattle.zim_lex.specs.declared.expanding.Stop.TheVariants.{Fault, Read, Memory}
use Rattle.zim_lex.specs.declared.lines.Line.{Line}
use Rattle.zim_lex.specs.Expanded.{Refusal, At}
use Rattle.zim_lex.specs.Lines.{bytes_of, lines_of, line_of_byte, placed_lines}
use Rattle.zim_lex.specs.Unread.{MayBeUnread}

-- a fact of the fault, where one is the result
abbrev pub IfStopped : {A : Type 0} → Result A Stop → (faults.Fault → Type 0) → Type 0
IfStopped (Err (Fault fault)) P = P fault
IfStopped _ P = Unit {0}

-- a fact, where a file stays unread
abbrev pub IfUnread : {A : Type 0} → Result A Stop → Type 0 → Type 0
IfUnread (Err (Read name)) P = P
IfUnread _ P = Unit {0}

-- the file is a fault's, and its kind is one that loading meets
pub record IsLoadingFault (fault : faults.Fault) (files : ℕ) : Type 0 where
  pub kind : (fault.kind ≡ LongFile) ⊎ (fault.kind ≡ IncludeDeep)
  pub place : fault.place.file < files

-- how much more there is: at most so many more files and bytes than room was used
pub record Grows (old new : Expansion) (most_files most_bytes : ℕ) : Type 0 where
  pub files : length new.files + new.room ≤ length old.files + old.room + most_files
  pub bytes : bytes_of new.lines + new.room ≤ bytes_of old.lines + old.room + most_bytes
  pub more : length old.files ≤ length new.files
  pub places : All (λ line. line.place.file < length old.files) old.lines → All (λ line. line.place.file < length new.files) new.lines

-- the text fits, and its lines are read
pub record IsTaken (old new : Expansion) (name text : List ℕ) (lines : List Line) : Type 0 where
  pub room : length text + new.room ≡ old.room
  pub lines_are : lines ≡ placed_lines 0 1 (lines_of text)

-- the text is too long
pub record IsTooLong (old : Expansion) (text : List ℕ) (fault : faults.Fault) : Type 0 where
  pub long : old.room < length text
  pub met : fault ≡ record { place = record { file = length old.files; line = line_of_byte text old.room }; kind = LongFile }

-- what opening a file and reading it whole tells of what the name holds
abbrev pub IsOpenedAs : Option (List ℕ) → Type 0 → Expansion → Expansion → List ℕ → Result (List Line) Stop → Type 0
IsOpenedAs held rose old new name (Ok lines) = (text : List ℕ) × (held ≡ Some text) × IsTaken old new name text lines
IsOpenedAs held rose old new name (Err (Fault fault)) = (text : List ℕ) × (held ≡ Some text) × IsTooLong old text fault
IsOpenedAs held rose old new name (Err (Read unread)) = (unread ≡ name) × ((held ≡ None) ⊎ rose)
IsOpenedAs held rose old new name (Err Memory) = Unit {0}

-- a fact of the answer, where memory wasn't refused
abbrev pub IfKnown : {A : Type 0} → Result A Stop → Type 0 → Type 0
IfKnown (Ok value) P = P
IfKnown (Err (Fault fault)) P = P
IfKnown (Err (Read name)) P = Unit {0}
IfKnown (Err Memory) P = Unit {0}

-- opening a file and reading it whole
pub record OpensFile (before now : FolderState) (old new : Expansion) (name : List ℕ) (result : Result (List Line) Stop) : Type 0 where
  pub only : OnlyRead before now
  pub begun : now.begun ≡ None
  pub told : IfSome before.held (λ files. IsOpenedAs (map.get files name) (Rose before.read_faults now.read_faults) old new name result)
  pub untold : IfNone before.held (IfUnread result (Rose before.read_faults now.read_faults))
  pub files : IfKnown result (new.files ≡ old.files ++ name ∷ [])
  pub lines : new.lines ≡ old.lines
  pub room : IfOk result (λ lines. bytes_of lines + new.room ≤ old.room)
  pub fault : IfStopped result (λ fault. (fault.kind ≡ LongFile) × (fault.place.file ≡ length old.files))

-- what a result tells of the answer
abbrev pub IsExpanded : Answer Expansion Refusal → Type 0 → Expansion → Result ⊤ Stop → Type 0
IsExpanded answer rose new (Ok done) = answer ≡ Ok new
IsExpanded answer rose new (Err (Fault fault)) = answer ≡ Err (At fault new.files)
IsExpanded answer rose new (Err (Read name)) = MayBeUnread (λ all. all.files) rose answer name
IsExpanded answer rose new (Err Memory) = Unit {0}

-- expanding something that has this answer over told files, and brings at most so many files and bytes more than room is used
pub record Expands (before now : FolderState) (answer : HeldFiles → Answer Expansion Refusal) (old new : Expansion) (most_files most_bytes : ℕ) (result : Result ⊤ Stop) : Type 0 where
  pub only : OnlyRead before now
  pub told : IfSome before.held (λ held. IsExpanded (answer held) (Rose before.read_faults now.read_faults) new result)
  pub untold : IfNone before.held (IfUnread result (Rose before.read_faults now.read_faults))
  pub grows : OnOk result (Grows old new most_files most_bytes)
  pub fault : IfStopped result (λ fault. IsLoadingFault fault (length new.files))

-- a stop that tells of the unread file of this name, or that memory was refused
abbrev pub IsUnread : List ℕ → Stop → Type 0
IsUnread name (Fault fault) = ⊥
IsUnread name (Read unread) = unread ≡ name
IsUnread name Memory = Unit {0}
