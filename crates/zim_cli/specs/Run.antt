-- What a run of the command does, by the way in which it ends.
use Rattle.std.specs.Prelude.{◌≡◌, ℕ, ◌+◌, ◌<◌, List, [], ◌∷◌, length, Option, None, Some}
use Rattle.zim_fault.specs.declared.faults.Fault.{Fault}
use Rattle.zim_gate.specs.Counts.{Rose, IsFrontOf}
use Rattle.zim_gate.specs.Folder.{FolderState, HeldFiles}
use Rattle.zim_gate.specs.Sink.{SinkState, SinkStopsIn}
use Rattle.zim_lex.specs.Opened.{ComeFirst}
use Rattle.zim_rows.specs.Program.{LinearProgram}
use Rattle.zim_columns.specs.declared.declared.Declared.{Declared}
use Rattle.zim_cli.specs.declared.ending.Ending.{Ending}
use Rattle.zim_cli.specs.declared.ending.Ending.TheVariants as ending
use Rattle.zim_cli.specs.declared.jobs.Job.{Job}
use Rattle.zim_cli.specs.declared.jobs.Job.TheVariants.{Compile}
use Rattle.zim_cli.specs.declared.outputs.Output.{Output}
use Rattle.zim_build.specs.Compile.{WhereTold, StaysUnread}
use Rattle.zim_build.specs.Model.{Model, statement_names, printed_by, MayBePrinted}
use Rattle.zim_build.specs.Program.{IsProgramOf}
use Rattle.zim_build.specs.Reading.{HasModel, HasFirstFault}
use Rattle.zim_cli.specs.FilesOf.{AreFilesOf}
use Rattle.zim_cli.specs.Outputs.{Texts, texts_of, output_name, both_lengths, with_table, Makes, IsEmptyFrontOf, IsStoppedAt}
use Rattle.zim_cli.specs.Printing.{TakesPrinted, IsPrinted}
use Rattle.zim_cli.specs.WriteFile.{KeepsFiles}

-- There is a model, which the named file is where files are told; the texts of its program are its files; and this is so of what it prints and of
-- the texts.
pub record OfModel (held : Option HeldFiles) (name : List ℕ) (Is : (printed : List ℕ) → Texts → Type 0) : Type 0 where
  pub model : Model
  pub opened : List (List ℕ)
  pub read : WhereTold held (λ files. HasModel files name model opened)
  pub columns : List Declared
  pub program : LinearProgram
  pub is_program : IsProgramOf model columns program
  pub say : AreFilesOf model columns (texts_of program columns (statement_names model))
  pub is : Is (printed_by model) (texts_of program columns (statement_names model))

-- A run that stopped at an output, as before that step or with a part of what it puts, `IsPart` saying which parts may be. What the model prints was
-- put before.
abbrev pub IsStopped : (List ℕ → List ℕ → Type 0) → FolderState → FolderState → SinkState → SinkState → List ℕ → List ℕ → Output → Type 0
IsStopped IsPart before now out_before out_now model base output =
    OfModel before.held model (λ printed texts. TakesPrinted out_before out_now printed × IsStoppedAt IsPart before now base texts output)

-- How a run ended, for the job that its words are and what was known of the folder and of the output before and is known now.
pub data Ended (job : Option Job) (before now : FolderState) (out_before out_now : SinkState) : Ending → Type 0 where
  -- the words are no job, and no call was made
  usage : job ≡ None → now ≡ before → out_now ≡ out_before → Ended job before now out_before out_now ending.Usage
  -- the named file is no model; the fault is its first one, in this file or in one that was opened after it, and what is printed by then was put
  refused : (model base : List ℕ) (fault : Fault) (opened : List (List ℕ)) (printed : List ℕ) → job ≡ Some (Compile model base) → fault.place.file < length opened →
      ComeFirst (model ∷ []) opened → WhereTold before.held (λ files. HasFirstFault files model fault opened printed) → MayBePrinted printed →
      TakesPrinted out_before out_now printed → KeepsFiles before now → Ended job before now out_before out_now (ending.Refused fault opened)
  -- the model, or a file that it opens, could not be read, and what is printed by then was put
  unread : (model base name printed : List ℕ) → job ≡ Some (Compile model base) → StaysUnread before now model name printed → TakesPrinted out_before out_now printed →
      KeepsFiles before now → Ended job before now out_before out_now (ending.Unread name)
  -- what is printed could not be put
  unput : (model base printed : List ℕ) → job ≡ Some (Compile model base) → IsPrinted before now model printed → SinkStopsIn out_before out_now printed →
      KeepsFiles before now → Ended job before now out_before out_now ending.Unput
  -- a call of writing failed at an output; the named file is a model
  unwritten : (model base : List ℕ) (output : Output) → job ≡ Some (Compile model base) → Rose before.write_faults now.write_faults →
      IsStopped IsFrontOf before now out_before out_now model base output → Ended job before now out_before out_now (ending.Unwritten (output_name base output))
  -- memory was refused, before anything was put, or by the begin of an output, of which no byte was put
  no_memory : out_now ≡ out_before → KeepsFiles before now → Ended job before now out_before out_now ending.Memory
  no_memory_to_begin : (model base : List ℕ) (output : Output) → job ≡ Some (Compile model base) →
      IsStopped IsEmptyFrontOf before now out_before out_now model base output → Ended job before now out_before out_now ending.Memory
  -- the three files are written whole and none is begun, every other file is as before, and what the model prints was put, and nothing else
  done : (model base : List ℕ) → job ≡ Some (Compile model base) → now.begun ≡ None →
      OfModel before.held model
      (λ printed texts. TakesPrinted out_before out_now printed × Makes before now (with_table base texts texts.table) (both_lengths texts + length texts.table)) →
      Ended job before now out_before out_now ending.Done
