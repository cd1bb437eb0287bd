-- What reading a data file tells, by what is known of its folder.
use Rattle.std.specs.Prelude.{◌≡◌, ℕ, List, Option, None, Some, IfSome, IfNone, Result, Ok, Err}
use Rattle.std.specs.FinMap as map
use Rattle.zim_answer.specs.Answer.{Answer}
use Rattle.zim_fault.specs.declared.faults.Fault as faults
use Rattle.zim_gate.specs.Counts.{Rose}
use Rattle.zim_gate.specs.Folder.{FolderState, OnlyRead}
use Rattle.zim_read.specs.declared.stops.RowsStop.{RowsStop}
use Rattle.zim_read.specs.declared.stops.RowsStop.TheVariants.{Fault, Read, Memory}

-- A fact, where the file wasn't read.
abbrev pub IfRowsUnread : {V : Type 0} → Result V RowsStop → Type 0 → Type 0
IfRowsUnread (Err Read) P = P
IfRowsUnread _ P = Unit {0}

-- A fact of the fault, where one is the result.
abbrev pub IfRowsFault : {V : Type 0} → Result V RowsStop → (faults.Fault → Type 0) → Type 0
IfRowsFault (Err (Fault fault)) P = P fault
IfRowsFault _ P = Unit {0}

-- A result is what the file's bytes give, but that a risen count can stand in place of it; a file that isn't held is unread.
abbrev pub IsOfFile : {V A : Type 0} → (V → A) → (List ℕ → Answer A faults.Fault) → Type 0 → Option (List ℕ) → Result V RowsStop → Type 0
IsOfFile view gives rose (Some bytes) (Ok value) = gives bytes ≡ Ok (view value)
IsOfFile view gives rose (Some bytes) (Err (Fault fault)) = gives bytes ≡ Err fault
IsOfFile view gives rose (Some bytes) (Err Read) = rose
IsOfFile view gives rose (Some bytes) (Err Memory) = Unit {0}
IsOfFile view gives rose None (Ok value) = ⊥
IsOfFile view gives rose None (Err (Fault fault)) = ⊥
IsOfFile view gives rose None (Err Read) = Unit {0}
IsOfFile view gives rose None (Err Memory) = Unit {0}

-- A data file of this name and number is read, from what was known of the folder to what is known now. `gives` says what the
-- bytes of a file give, and `view` how the value of the result is seen.
pub record ReadsFile {V A : Type 0} (view : V → A) (before now : FolderState) (name : List ℕ) (file : ℕ) (gives : List ℕ → Answer A faults.Fault) (result : Result V RowsStop) : Type 0 where
  -- over told files the result is that of the named one; where that is held it is unread only where the count rose
  pub told : IfSome before.held (λ files. IsOfFile view gives (Rose before.read_faults now.read_faults) (map.get files name) result)
  -- over others it is unread only where the count rose
  pub untold : IfNone before.held (IfRowsUnread result (Rose before.read_faults now.read_faults))
  -- a fault's place is in this file
  pub place : IfRowsFault result (λ fault. fault.place.file ≡ file)
  pub only : OnlyRead before now
  pub begun : now.begun ≡ None
