-- What it means to compile a model.
use Rattle.std.specs.Prelude.{◌≡◌, ℕ, ◌^◌, ◌<◌, ◌⊎◌, List, [], ◌∷◌, length, All, Option, None, Some, IfSome, IfNone, Result, Ok, Err, ⊤}
use Rattle.zim_fault.specs.declared.faults.Fault.{Fault}
use Rattle.zim_gate.specs.Counts.{Rose}
use Rattle.zim_gate.specs.Folder.{FolderState, HeldFiles, OnlyRead}
use Rattle.zim_lex.specs.Opened.{ComeFirst}
use Rattle.zim_rows.specs.Finished.{program_of}
use Rattle.zim_columns.specs.Parts.{HasPartsWithin}
use Rattle.zim_table.specs.Correct.{CanBeListed}
use Rattle.zim_build.specs.declared.compiled.Compiled.{Compiled}
use Rattle.zim_build.specs.declared.compiled.BuildFault.{BuildFault}
use Rattle.zim_build.specs.declared.compiled.BuildFault.TheVariants as build
use Rattle.zim_build.specs.Model.{Model, asks, statement_names, printed_by, MayBePrinted}
use Rattle.zim_build.specs.Program.{IsProgramOf, SaysModel, AreAsAsked}
use Rattle.zim_build.specs.Reading.{HasModel, HasFirstFault, MissesFile, OpensNamedFile}

-- Where files are told, this is so of them.
abbrev pub WhereTold : Option HeldFiles → (HeldFiles → Type 0) → Type 0
WhereTold None Is = ⊤
WhereTold (Some files) Is = Is files

-- What is compiled of a model, whatever the folder tells: the model's program, which says the model; its columns as they are asked for, whose numbers
-- are within the limit; the names of its statements; and what it prints. All of it can be listed in a table.
pub record IsCompiled (model : Model) (compiled : Compiled) : Type 0 where
  pub program : IsProgramOf model compiled.columns (program_of compiled.system)
  pub says : SaysModel model compiled.columns (program_of compiled.system)
  pub columns : AreAsAsked (asks model) compiled.columns
  pub names : compiled.names ≡ statement_names model
  pub printed : compiled.printed ≡ printed_by model
  pub parts : All HasPartsWithin compiled.columns
  pub listable : CanBeListed (program_of compiled.system) compiled.columns compiled.names

-- A file of this name stays unread, when this text was printed. Where files are told, the model misses it; or a call of reading failed, and it is one
-- of the files that the model opens. Where they aren't told, a call of reading failed.
pub record StaysUnread (before now : FolderState) (model name printed : List ℕ) : Type 0 where
  pub printable : MayBePrinted printed
  pub told : IfSome before.held
      (λ files. MissesFile files model name printed ⊎ (Rose before.read_faults now.read_faults × OpensNamedFile files model name printed))
  pub untold : IfNone before.held (Rose before.read_faults now.read_faults)

-- This was compiled of a model, which is the one of the name where files are told. The model's own file is the first of the opened ones, of which there
-- are fewer than 2^32.
pub record IsCompiledFor (before : FolderState) (name : List ℕ) (compiled : Compiled) : Type 0 where
  pub model : Model
  pub is : IsCompiled model compiled
  pub own : ComeFirst (name ∷ []) compiled.files
  pub few : length compiled.files < 2 ^ 32
  pub read : WhereTold before.held (λ files. HasModel files name model compiled.files)

-- The model of this name was refused: where files are told, this is its first fault, among the files that were opened and behind the text that was
-- printed by then. The fault's file is among the opened ones, of which the model's own is the first.
pub record IsRefusedFor (before : FolderState) (name : List ℕ) (fault : Fault) (opened : List (List ℕ)) (printed : List ℕ) : Type 0 where
  pub place : fault.place.file < length opened
  pub own : ComeFirst (name ∷ []) opened
  pub printable : MayBePrinted printed
  pub read : WhereTold before.held (λ files. HasFirstFault files name fault opened printed)

-- What compiling the model of this name answers. Want of memory is free.
abbrev pub Answers : FolderState → FolderState → List ℕ → Result Compiled BuildFault → Type 0
Answers before now name (Ok compiled) = IsCompiledFor before name compiled
Answers before now name (Err (build.Refused fault opened printed)) = IsRefusedFor before name fault opened printed
Answers before now name (Err (build.Read other printed)) = StaysUnread before now name other printed
Answers before now name (Err build.Memory) = ⊤

-- A model was compiled, or wasn't, and the folder did nothing but read.
pub record Compiles (before now : FolderState) (name : List ℕ) (result : Result Compiled BuildFault) : Type 0 where
  pub answers : Answers before now name result
  pub only : OnlyRead before now
