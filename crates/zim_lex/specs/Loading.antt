-- What a load tells of the lines and files of the model by its name.
use Rattle.std.specs.Prelude.{◌≡◌, ℕ, ◌≤◌, List, [], ◌∷◌, length, Option, None, IfSome, IfNone, Result, Ok, Err, IfOk}
use Rattle.zim_answer.specs.Answer.{Answer}
use Rattle.zim_fault.specs.declared.faults.Fault as faults
use Rattle.zim_gate.specs.Counts.{Rose}
use Rattle.zim_gate.specs.Folder.{HeldFiles, FolderState, OnlyRead}
use Rattle.zim_lex.specs.declared.expanding.Stop.{Stop}
use Rattle.zim_lex.specs.declared.expanding.Stop.TheVariants as stops
use Rattle.zim_lex.specs.declared.lines.Loaded.{Loaded}
use Rattle.zim_lex.specs.declared.faults.LoadFault.{LoadFault}
use Rattle.zim_lex.specs.declared.faults.LoadFault.TheVariants.{Fault, Read, Memory}
use Rattle.zim_lex.specs.Expanded.{Refusal, At, model_in}
use Rattle.zim_lex.specs.Expanding.{IsLoadingFault}
use Rattle.zim_lex.specs.Lines.{AreWithin}
use Rattle.zim_lex.specs.Opened.{ComeFirst}
use Rattle.zim_lex.specs.Unread.{MayBeUnread}

-- the fault of a load that stops after these files were opened
abbrev pub load_fault : Stop → List (List ℕ) → LoadFault
load_fault (stops.Fault fault) files = Fault fault files
load_fault (stops.Read name) files = Read name
load_fault stops.Memory files = Memory

-- a load's result is the model's, but that a risen count can stand in place of it, at a file that the model opens
abbrev pub IsModel : Answer Loaded Refusal → Type 0 → Result Loaded LoadFault → Type 0
IsModel model rose (Ok loaded) = model ≡ Ok loaded
IsModel model rose (Err (Fault fault files)) = model ≡ Err (At fault files)
IsModel model rose (Err (Read name)) = MayBeUnread (λ all. all.files) rose model name
IsModel model rose (Err Memory) = Unit {0}

-- a fact, where a file couldn't be read
abbrev pub IfRead : Result Loaded LoadFault → Type 0 → Type 0
IfRead (Err (Read name)) P = P
IfRead _ P = Unit {0}

-- a fact of the fault and the files, where a fault is the result
abbrev pub IfFault : Result Loaded LoadFault → (faults.Fault → List (List ℕ) → Type 0) → Type 0
IfFault (Err (Fault fault files)) P = P fault files
IfFault _ P = Unit {0}

-- a fact of the files that were opened, where they are told
abbrev pub IfOpened : Result Loaded LoadFault → (List (List ℕ) → Type 0) → Type 0
IfOpened (Ok loaded) P = P loaded.files
IfOpened (Err (Fault fault files)) P = P files
IfOpened (Err (Read name)) P = Unit {0}
IfOpened (Err Memory) P = Unit {0}

-- what holds of every load, whatever the folder tells
pub record IsWithinLimits (loaded : Loaded) : Type 0 where
  pub files : length loaded.files ≤ 67108865
  pub lines : AreWithin loaded.lines (length loaded.files)

-- what a load's result tells, where these files are held and a fact stands for a risen count
pub record Tells (held : Option HeldFiles) (name : List ℕ) (rose : Type 0) (result : Result Loaded LoadFault) : Type 0 where
  -- over told files the result is the model's; a file that is there is unread only where the count rose
  pub told : IfSome held (λ files. IsModel (model_in files name) rose result)
  -- over others a file is unread only where the count rose
  pub untold : IfNone held (IfRead result rose)

-- `load` of the model of this name, from what was known of the folder to what is known now
pub record Loads (before now : FolderState) (name : List ℕ) (result : Result Loaded LoadFault) : Type 0 where
  pub tells : Tells before.held name (Rose before.read_faults now.read_faults) result
  pub within : IfOk result IsWithinLimits
  pub fault : IfFault result (λ fault files. IsLoadingFault fault (length files))
  -- the model's own file is the first that was opened
  pub opened : IfOpened result (ComeFirst (name ∷ []))
  pub only : OnlyRead before now
  pub begun : now.begun ≡ None
