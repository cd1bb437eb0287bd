-- What it does to a folder to begin a file, to put a text to it and to end it.
use Rattle.std.specs.Prelude.{◌≡◌, ℕ, ◌≤◌, ◌⊎◌, List, [], length, None, option_map, Result, OnOk, OnErr, IsErrOf, ⊤}
use Rattle.std.specs.FinMap as map
use Rattle.zim_gate.specs.Counts.{Rose, count_on, IsFrontOf}
use Rattle.zim_gate.specs.Folder.{FolderState, HeldFiles}
use Rattle.zim_gate.specs.declared.stops.BeginStop.{BeginStop}
use Rattle.zim_gate.specs.declared.stops.BeginStop.TheVariants as stop

-- No file was changed, no byte was put, and the folder's promise is as before.
pub record KeepsFiles (before now : FolderState) : Type 0 where
  pub held : now.held ≡ before.held
  pub wrote : now.wrote ≡ before.wrote
  pub faultless_below : now.faultless_below ≡ before.faultless_below

-- The named file holds the bytes now and every other file is as before, and just so many bytes were put. Where files
-- aren't told, they stay so. The folder's promise is as before.
pub record HoldsOnly (before now : FolderState) (name bytes : List ℕ) : Type 0 where
  pub held : now.held ≡ option_map (λ (files : HeldFiles). map.insert files name bytes) before.held
  pub wrote : now.wrote ≡ option_map (count_on (length bytes)) before.wrote
  pub faultless_below : now.faultless_below ≡ before.faultless_below

-- No file was changed, or the named file holds a first part of the text.
abbrev pub IsPartOf : FolderState → FolderState → List ℕ → List ℕ → Type 0
IsPartOf before now name text =
    KeepsFiles before now ⊎ ((front : List ℕ) × IsFrontOf front text × HoldsOnly before now name front)

-- A file was written whole and is ended, so that no file is begun; or the work stopped on the way; for want of memory it stopped before a byte was
-- put.
pub record WritesFile (before now : FolderState) (name text : List ℕ) (result : Result ⊤ BeginStop) : Type 0 where
  pub ok : OnOk result (HoldsOnly before now name text)
  pub ended : OnOk result (now.begun ≡ None)
  pub err : OnErr result (IsPartOf before now name text)
  pub failed : IsErrOf result stop.Failed → Rose before.write_faults now.write_faults
  pub refused : IsErrOf result stop.Memory → KeepsFiles before now ⊎ HoldsOnly before now name []
  pub write_faults : before.write_faults ≤ now.write_faults
