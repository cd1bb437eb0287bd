-- What a run promises: how it ended, what its line is, and which endings must come.
use Rattle.std.specs.Prelude.{◌≡◌, ℕ, ◌+◌, ◌<◌, ◌⊎◌, List, Option, Some, None, option_map}
use Rattle.zim_fault.specs.declared.faults.Fault.{Fault}
use Rattle.zim_gate.specs.Counts.{Rose}
use Rattle.zim_gate.specs.Folder.{FolderState, HeldFiles, bytes_of_name}
use Rattle.zim_gate.specs.Sink.{SinkState}
use Rattle.zim_rows.specs.Program.{LinearProgram}
use Rattle.zim_columns.specs.declared.declared.Declared.{Declared}
use Rattle.zim_table.specs.Ended.{EndsInEnd}
use Rattle.zim_build.specs.Model.{Model, statement_names}
use Rattle.zim_build.specs.Program.{IsProgramOf}
use Rattle.zim_build.specs.Reading.{HasModel, HasFirstFault, MissesFile}
use Rattle.zim_cli.specs.declared.ending.Ending.{Ending}
use Rattle.zim_cli.specs.declared.jobs.Job.{Job}
use Rattle.zim_cli.specs.declared.jobs.Job.TheVariants.{Compile}
use Rattle.zim_cli.specs.declared.outputs.Output.TheVariants.{Table}
use Rattle.zim_cli.specs.declared.status.Status.{Status}
use Rattle.zim_cli.specs.declared.status.Status.TheVariants as status
use Rattle.zim_cli.specs.Ending.{status_of, ending_line, TakesLine}
use Rattle.zim_cli.specs.Outputs.{texts_of, all_lengths, output_name, with_table}
use Rattle.zim_cli.specs.Run.{Ended, OfModel}

-- A run ended in one way, with its status, and the error stream took its line.
pub record Runs (job : Option Job) (before now : FolderState) (out_before out_now err_before err_now : SinkState) (result : Status) : Type 0 where
  pub ending : Ending
  pub ended : Ended job before now out_before out_now ending
  pub status_is : result ≡ status_of ending
  pub line : TakesLine err_before err_now (ending_line ending)

-- The folder failed at nothing in this run.
pub record NothingRose (before now : FolderState) : Type 0 where
  pub reads : Rose before.read_faults now.read_faults → ⊥
  pub writes : Rose before.write_faults now.write_faults → ⊥

-- The output failed at nothing in this run.
abbrev pub NothingUnput : SinkState → SinkState → Type 0
NothingUnput out_before out_now = Rose out_before.faults out_now.faults → ⊥

-- The status is this one, or memory was refused.
abbrev pub IsUnlessMemory : Status → Status → Type 0
IsUnlessMemory wanted result = (result ≡ wanted) ⊎ (result ≡ status.Memory)

-- The status is this one, or memory was refused, or the output failed.
abbrev pub IsUnlessUnput : SinkState → SinkState → Status → Status → Type 0
IsUnlessUnput out_before out_now wanted result = IsUnlessMemory wanted result ⊎ ((result ≡ status.OutFault) × Rose out_before.faults out_now.faults)

-- Words that are no job end in Usage.
abbrev pub MustBeUsage : Option Job → Status → Type 0
MustBeUsage job result = job ≡ None → IsUnlessMemory status.Usage result

-- A model is done, where nothing failed. By the law `a_name_is_one_of_three` of `zim_build`, what has no first fault and misses no file is a model,
-- so that this is so of it too.
abbrev pub MustBeDone : Option Job → FolderState → FolderState → SinkState → SinkState → Status → Type 0
MustBeDone job before now out_before out_now result =
    (name base : List ℕ) (files : HeldFiles) (model : Model) (opened : List (List ℕ)) → job ≡ Some (Compile name base) → before.held ≡ Some files →
    HasModel files name model opened → NothingRose before now → NothingUnput out_before out_now → IsUnlessMemory status.Done result

-- What has a first fault is refused, where nothing failed. By the same law, what is no model and misses no file has a first fault.
abbrev pub MustBeRefused : Option Job → FolderState → FolderState → SinkState → SinkState → Status → Type 0
MustBeRefused job before now out_before out_now result =
    (name base : List ℕ) (files : HeldFiles) (fault : Fault) (opened : List (List ℕ)) (printed : List ℕ) → job ≡ Some (Compile name base) → before.held ≡ Some files →
    HasFirstFault files name fault opened printed → NothingRose before now → NothingUnput out_before out_now → IsUnlessMemory status.Refused result

-- What misses a file is a read fault, whatever the folder does.
abbrev pub MustBeReadFault : Option Job → FolderState → SinkState → SinkState → Status → Type 0
MustBeReadFault job before out_before out_now result =
    (name base missing printed : List ℕ) (files : HeldFiles) → job ≡ Some (Compile name base) → before.held ≡ Some files →
    MissesFile files name missing printed → IsUnlessUnput out_before out_now status.ReadFault result

-- The three files of a model, which is the one that was held before, are written whole, and every other file is as before.
abbrev pub HoldsAllFiles : FolderState → FolderState → List ℕ → List ℕ → Type 0
HoldsAllFiles before now model base =
    OfModel before.held model (λ printed texts. now.held ≡ option_map (with_table base texts texts.table) before.held)

-- A run has room below a limit: what was put before, with all texts of the named model, if it is one, is less.
pub record HasRoom (files : HeldFiles) (name : List ℕ) (wrote limit : ℕ) : Type 0 where
  pub before : wrote < limit
  pub texts : (model : Model) (opened : List (List ℕ)) (columns : List Declared) (program : LinearProgram) → HasModel files name model opened →
      IsProgramOf model columns program → wrote + all_lengths (texts_of program columns (statement_names model)) < limit

-- A folder that promises to fail at nothing while fewer bytes than a limit were put failed at nothing, where the run has room below it.
abbrev pub MustNotFail : Option Job → FolderState → FolderState → Type 0
MustNotFail job before now =
    (model base : List ℕ) (files : HeldFiles) (wrote limit : ℕ) → job ≡ Some (Compile model base) → before.held ≡ Some files →
    before.wrote ≡ Some wrote → before.faultless_below ≡ Some limit → HasRoom files model wrote limit → NothingRose before now

-- A table that ends in its last line is one that stood there before a run that changed no file, or all files are whole.
abbrev pub EndedTableIsWhole : Option Job → FolderState → FolderState → Type 0
EndedTableIsWhole job before now =
    (model base text : List ℕ) → job ≡ Some (Compile model base) → bytes_of_name now.held (output_name base Table) ≡ Some text →
    EndsInEnd text → (now.held ≡ before.held) ⊎ HoldsAllFiles before now model base
