-- What is known of a folder, and what each of its calls does to that.
use Rattle.std.specs.Prelude.{◌≡◌, ℕ, ◌≤◌, ◌<◌, ◌⊎◌, List, [], ◌++◌, length, take, Option, None, Some, option_map, option_and_then, IsSome, IfSome, Result, IfOk, OnOk, OnErr, IsErrOf, ⊤}
use Rattle.std.specs.Ordering.{nat_cmp}
use Rattle.std.specs.Cmp.Lexicographic.{slice_cmp}
use Rattle.std.specs.FinMap as map
use Rattle.std.specs.Io.KnownBytes.{prepend_known}
use Rattle.zim_gate.specs.declared.stops.OpenStop.{OpenStop}
use Rattle.zim_gate.specs.declared.stops.OpenStop.TheVariants as stop
use Rattle.zim_gate.specs.declared.stops.BeginStop.{BeginStop}
use Rattle.zim_gate.specs.declared.stops.BeginStop.TheVariants as begin_stop
use Rattle.zim_gate.specs.declared.stops.Failed.{Failed}
use Rattle.zim_gate.specs.Counts.{Rose, count_on, IsFrontOf}

-- files: their bytes by their names
abbrev pub HeldFiles : Type 0
HeldFiles = map.FinMap (slice_cmp nat_cmp) (List ℕ)

-- what is known of a folder
pub record FolderState : Type 0 where
  -- the files that it holds, or None where they aren't told
  pub held : Option HeldFiles
  -- the rest of the file that is open for reading, which is empty where nothing is open; None where it isn't told
  pub rest : Option (List ℕ)
  -- the name that is begun for writing
  pub begun : Option (List ℕ)
  -- how many bytes were put, or None where that isn't told
  pub wrote : Option ℕ
  -- how many calls of open and read failed
  pub read_faults : ℕ
  -- how many calls of begin, put and end failed
  pub write_faults : ℕ
  -- while fewer bytes than this were put, nothing has failed; None where the folder doesn't promise that
  pub faultless_below : Option ℕ

-- what every folder keeps: where the files are told, so are the rest and the number of bytes, and its promise holds
pub record IsSound (state : FolderState) : Type 0 where
  pub rest_told : IsSome state.held → IsSome state.rest
  pub wrote_told : IsSome state.held → IsSome state.wrote
  pub faultless : (limit wrote : ℕ) → state.faultless_below ≡ Some limit → state.wrote ≡ Some wrote → wrote < limit →
      (state.read_faults ≡ 0) × (state.write_faults ≡ 0)

-- the bytes that a name holds, where files are told and hold it
abbrev pub bytes_of_name : Option HeldFiles → List ℕ → Option (List ℕ)
bytes_of_name held name = option_and_then (λ files. map.get files name) held

-- files in which the name holds nothing, made anew if need be
abbrev pub emptied : List ℕ → HeldFiles → HeldFiles
emptied name files = map.insert files name []

-- what a file holds after an append; a name that isn't held stays so
abbrev pub appended_to : List ℕ → List ℕ → HeldFiles → Option (List ℕ) → HeldFiles
appended_to name bytes files None = files
appended_to name bytes files (Some old) = map.insert files name (old ++ bytes)

-- files with bytes appended to the one that is begun, and every other one as it was
abbrev pub put_to : Option (List ℕ) → List ℕ → HeldFiles → HeldFiles
put_to None bytes files = files
put_to (Some name) bytes files = appended_to name bytes files (map.get files name)

-- nothing is open for reading
abbrev pub IsClosed : FolderState → Type 0
IsClosed state = state.rest ≡ option_map (λ _. []) state.held

-- `Missing` comes for a name that told files don't hold, and is no fault; where they aren't told, it is one
abbrev pub IsMissing : Option HeldFiles → List ℕ → ℕ → ℕ → Type 0
IsMissing None name before now = Rose before now
IsMissing (Some files) name before now = (map.get files name ≡ None) × (now ≡ before)

-- `open`. Told files that don't hold the name leave `Missing`, `Memory` and, with a risen count, `Failed`.
pub record Opens (before now : FolderState) (name : List ℕ) (result : Result ⊤ OpenStop) : Type 0 where
  pub ok : OnOk result (now.rest ≡ bytes_of_name before.held name)
  pub only_held : OnOk result (IsSome before.held → IsSome (bytes_of_name before.held name))
  pub err : OnErr result (IsClosed now)
  pub failed : IsErrOf result stop.Failed → Rose before.read_faults now.read_faults
  pub missing : IsErrOf result stop.Missing → IsMissing before.held name before.read_faults now.read_faults
  pub held : now.held ≡ before.held
  pub begun : now.begun ≡ None
  pub wrote : now.wrote ≡ before.wrote
  pub read_faults : before.read_faults ≤ now.read_faults
  pub write_faults : now.write_faults ≡ before.write_faults
  pub faultless_below : now.faultless_below ≡ before.faultless_below

-- `read` put n bytes from the front of the rest into the front of the buffer, none only at the rest's end
pub record Takes (before now : FolderState) (buffer : List ℕ) (n : ℕ) : Type 0 where
  pub within : n ≤ length buffer
  pub rest : before.rest ≡ prepend_known (take n buffer) now.rest
  pub at_end : n ≡ 0 → IfSome before.rest (λ rest. rest ≡ [])

-- `read`, with the buffer as it is afterwards
pub record Reads (before now : FolderState) (buffer : List ℕ) (result : Result ℕ Failed) : Type 0 where
  pub ok : IfOk result (Takes before now buffer)
  pub err : OnErr result (now.rest ≡ before.rest)
  pub failed : OnErr result (Rose before.read_faults now.read_faults)
  pub held : now.held ≡ before.held
  pub begun : now.begun ≡ before.begun
  pub wrote : now.wrote ≡ before.wrote
  pub read_faults : before.read_faults ≤ now.read_faults
  pub write_faults : now.write_faults ≡ before.write_faults
  pub faultless_below : now.faultless_below ≡ before.faultless_below

-- `begin`
pub record Begins (before now : FolderState) (name : List ℕ) (result : Result ⊤ BeginStop) : Type 0 where
  pub ok : OnOk result (now.held ≡ option_map (emptied name) before.held)
  pub ok_begun : OnOk result (now.begun ≡ Some name)
  pub err : OnErr result ((now.held ≡ before.held) ⊎ (now.held ≡ option_map (emptied name) before.held))
  pub err_begun : OnErr result (now.begun ≡ None)
  pub failed : IsErrOf result begin_stop.Failed → Rose before.write_faults now.write_faults
  pub closed : IsClosed now
  pub wrote : now.wrote ≡ before.wrote
  pub read_faults : now.read_faults ≡ before.read_faults
  pub write_faults : before.write_faults ≤ now.write_faults
  pub faultless_below : now.faultless_below ≡ before.faultless_below

-- the bytes were appended to the file that is begun, and nothing else happened but maybe a fault of writing
pub record Appends (before now : FolderState) (bytes : List ℕ) : Type 0 where
  pub held : now.held ≡ option_map (put_to before.begun bytes) before.held
  pub wrote : now.wrote ≡ option_map (count_on (length bytes)) before.wrote
  pub rest : now.rest ≡ before.rest
  pub begun : now.begun ≡ before.begun
  pub read_faults : now.read_faults ≡ before.read_faults
  pub write_faults : before.write_faults ≤ now.write_faults
  pub faultless_below : now.faultless_below ≡ before.faultless_below

-- a part of the piece was appended, from its front, and the count rose
pub record StopsIn (before now : FolderState) (piece : List ℕ) : Type 0 where
  pub bytes : List ℕ
  pub front : IsFrontOf bytes piece
  pub appends : Appends before now bytes
  pub rose : Rose before.write_faults now.write_faults

-- `put`
pub record Puts (before now : FolderState) (piece : List ℕ) (result : Result ⊤ Failed) : Type 0 where
  pub ok : OnOk result (Appends before now piece)
  pub err : OnErr result (StopsIn before now piece)

-- `end`
pub record Ends (before now : FolderState) (result : Result ⊤ Failed) : Type 0 where
  pub failed : OnErr result (Rose before.write_faults now.write_faults)
  pub held : now.held ≡ before.held
  pub rest : now.rest ≡ before.rest
  pub begun : now.begun ≡ None
  pub wrote : now.wrote ≡ before.wrote
  pub read_faults : now.read_faults ≡ before.read_faults
  pub write_faults : before.write_faults ≤ now.write_faults
  pub faultless_below : now.faultless_below ≡ before.faultless_below

-- the folder did nothing but read, and maybe fail at that
pub record OnlyRead (before now : FolderState) : Type 0 where
  pub held : now.held ≡ before.held
  pub wrote : now.wrote ≡ before.wrote
  pub read_faults : before.read_faults ≤ now.read_faults
  pub write_faults : now.write_faults ≡ before.write_faults
  pub faultless_below : now.faultless_below ≡ before.faultless_below
