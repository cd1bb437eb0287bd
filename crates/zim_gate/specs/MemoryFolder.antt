-- What a folder in memory holds, and the numbers of its calls.
use Rattle.std.specs.Prelude.{◌≡◌, ℕ, ◌<◌, ◌-◌, List, [], length, take, None, Some, option_and_then, unwrap_or, Contains}
use Rattle.std.specs.FinMap as finite
use Rattle.zim_gate.specs.declared.memory_folders.MemoryFolder.{MemoryFolder}
use Rattle.zim_gate.specs.Counts.{count_on}
use Rattle.zim_gate.specs.Folder.{FolderState, Appends, bytes_of_name}
use Rattle.zim_gate.specs.Stored.{files_of, begun_name, promised_room}

-- what is known of a folder in memory: all
abbrev pub folder_state : MemoryFolder → FolderState
folder_state folder = record {
  held = Some (files_of folder.files.items);
  rest = Some folder.reading;
  begun = begun_name folder.begun folder.files.items;
  wrote = Some folder.wrote;
  read_faults = folder.read_faults;
  write_faults = folder.write_faults;
  faultless_below = promised_room folder.calls.fails.items folder.room;
}

-- how many calls there were
abbrev pub call_count : MemoryFolder → ℕ
call_count folder = folder.calls.done

-- the numbers of the calls that fail
abbrev pub failing_calls : MemoryFolder → List ℕ
failing_calls folder = folder.calls.fails.items

-- the most bytes that a written file can have
abbrev pub folder_room : MemoryFolder → ℕ
folder_room folder = folder.room

-- a new folder: of two pairs of one name the first counts
abbrev pub new_state : List (List ℕ × List ℕ) → ℕ → List ℕ → FolderState
new_state files room fails = record {
  held = Some (finite.from_entries files);
  rest = Some [];
  begun = None;
  wrote = Some 0;
  read_faults = 0;
  write_faults = 0;
  faultless_below = promised_room fails room;
}

-- the next call fails by its number
abbrev pub CallFails : MemoryFolder → Type 0
CallFails folder = Contains (failing_calls folder) (count_on 1 (call_count folder))

-- the bytes of the file that is begun, none where none is
abbrev pub begun_bytes : MemoryFolder → List ℕ
begun_bytes folder = unwrap_or (option_and_then (bytes_of_name (folder_state folder).held) (folder_state folder).begun) []

-- how many bytes more the file that is begun can have
abbrev pub begun_room : MemoryFolder → ℕ
begun_room folder = folder_room folder - length (begun_bytes folder)

-- the piece passes the room of the file that is begun
abbrev pub PassesRoom : MemoryFolder → List ℕ → Type 0
PassesRoom folder piece = begun_room folder < length piece

-- a call was counted, and which calls fail and how much room there is stays
pub record CountsCall (old new : MemoryFolder) : Type 0 where
  pub calls : call_count new ≡ count_on 1 (call_count old)
  pub fails : failing_calls new ≡ failing_calls old
  pub room : folder_room new ≡ folder_room old

-- both counts of faults are as they were
pub record KeepsFaults (old new : MemoryFolder) : Type 0 where
  pub read_faults : (folder_state new).read_faults ≡ (folder_state old).read_faults
  pub write_faults : (folder_state new).write_faults ≡ (folder_state old).write_faults

-- a put that doesn't fail by its number appends what fits of the piece
pub record PutsWhatFits (old new : MemoryFolder) (piece : List ℕ) : Type 0 where
  pub fits : ¬ (CallFails old) → Appends (folder_state old) (folder_state new) (take (begun_room old) piece)
