-- The files that a compilation writes, and what it does to a folder to write them in their order.
use Rattle.std.specs.Prelude.{◌≡◌, ℕ, ◌+◌, List, [], ◌++◌, length, None, option_map, Result, Ok, Err, codes, ⊤}
use Rattle.std.specs.FinMap as files_map
use Rattle.zim_gate.specs.Counts.{Rose, count_on, IsFrontOf}
use Rattle.zim_gate.specs.Folder.{FolderState, HeldFiles}
use Rattle.zim_gate.specs.declared.stops.BeginStop.{BeginStop}
use Rattle.zim_gate.specs.declared.stops.BeginStop.TheVariants as begin_stop
use Rattle.zim_rows.specs.Program.{LinearProgram}
use Rattle.zim_lp.specs.Text.{lp_text}
use Rattle.zim_mps.specs.Text.{mps_text}
use Rattle.zim_table.specs.declared.names.Names.{Names}
use Rattle.zim_table.specs.Text.{table_text}
use Rattle.zim_columns.specs.declared.declared.Declared.{Declared}
use Rattle.zim_cli.specs.declared.outputs.Output.{Output}
use Rattle.zim_cli.specs.declared.outputs.Output.TheVariants.{Lp, Mps, Table}
use Rattle.zim_cli.specs.declared.outputs.OutputNames.{OutputNames}
use Rattle.zim_cli.specs.declared.outputs.OutputStop.{OutputStop}
use Rattle.zim_cli.specs.declared.outputs.OutputStop.TheVariants as stop

-- How the name of an output ends.
abbrev pub ending_text : Output → List ℕ
ending_text Lp = codes ".lp"
ending_text Mps = codes ".mps"
ending_text Table = codes ".tbl"

-- The name of an output of a base.
abbrev pub output_name : List ℕ → Output → List ℕ
output_name base output = base ++ ending_text output

-- The names of the outputs of a base.
pub record AreNamesOf (base : List ℕ) (names : OutputNames) : Type 0 where
  pub lp : names.lp ≡ output_name base Lp
  pub mps : names.mps ≡ output_name base Mps
  pub table : names.table ≡ output_name base Table

-- One of the names.
abbrev pub name_in : OutputNames → Output → List ℕ
name_in names Lp = names.lp
name_in names Mps = names.mps
name_in names Table = names.table

-- The texts of the outputs.
pub record Texts : Type 0 where
  pub lp : List ℕ
  pub mps : List ℕ
  pub table : List ℕ

-- The texts that are written for a program with its declared columns and the names of statements.
abbrev pub texts_of : LinearProgram → List Declared → Names → Texts
texts_of program columns names = record {
  lp = lp_text program;
  mps = mps_text program;
  table = table_text program columns names;
}

-- Files in which the table of a base is empty.
abbrev pub without_table : List ℕ → HeldFiles → HeldFiles
without_table base files = files_map.insert files (output_name base Table) []

-- The same, and then the LP file holds these bytes.
abbrev pub with_lp : List ℕ → List ℕ → HeldFiles → HeldFiles
with_lp base bytes files = files_map.insert (without_table base files) (output_name base Lp) bytes

-- The same with the whole LP file, and then the MPS file holds these bytes.
abbrev pub with_mps : List ℕ → Texts → List ℕ → HeldFiles → HeldFiles
with_mps base texts bytes files = files_map.insert (with_lp base texts.lp files) (output_name base Mps) bytes

-- The same with the whole LP and MPS files, and then the table holds these bytes.
abbrev pub with_table : List ℕ → Texts → List ℕ → HeldFiles → HeldFiles
with_table base texts bytes files = files_map.insert (with_mps base texts texts.mps files) (output_name base Table) bytes

-- How many bytes the LP text and the MPS text have together.
abbrev pub both_lengths : Texts → ℕ
both_lengths texts = length texts.lp + length texts.mps

-- How many bytes all texts have together.
abbrev pub all_lengths : Texts → ℕ
all_lengths texts = both_lengths texts + length texts.table

-- No byte of a text.
abbrev pub IsEmptyFrontOf : List ℕ → List ℕ → Type 0
IsEmptyFrontOf front text = front ≡ []

-- What the files may be made where the writing stopped at an output, and how many bytes were put by then: as before the step that
-- stopped, or with a part of what that step puts, `IsPart` saying which parts may be.
pub data StopsAt (IsPart : List ℕ → List ℕ → Type 0) (base : List ℕ) (texts : Texts) : Output → (HeldFiles → HeldFiles) → ℕ → Type 0 where
  untouched : StopsAt IsPart base texts Table (λ files. files) 0
  emptied : StopsAt IsPart base texts Table (without_table base) 0
  lp_kept : StopsAt IsPart base texts Lp (without_table base) 0
  lp_part : (front : List ℕ) → IsPart front texts.lp → StopsAt IsPart base texts Lp (with_lp base front) (length front)
  mps_kept : StopsAt IsPart base texts Mps (with_lp base texts.lp) (length texts.lp)
  mps_part : (front : List ℕ) → IsPart front texts.mps → StopsAt IsPart base texts Mps (with_mps base texts front) (length texts.lp + length front)
  table_kept : StopsAt IsPart base texts Table (with_mps base texts texts.mps) (both_lengths texts)
  table_part : (front : List ℕ) → IsPart front texts.table → StopsAt IsPart base texts Table (with_table base texts front) (both_lengths texts + length front)

-- The files are what this makes of them, and so many bytes were put; where files or bytes aren't told, they stay so. The folder's
-- promise is as before.
pub record Makes (before now : FolderState) (change : HeldFiles → HeldFiles) (bytes : ℕ) : Type 0 where
  pub held : now.held ≡ option_map change before.held
  pub wrote : now.wrote ≡ option_map (count_on bytes) before.wrote
  pub faultless_below : now.faultless_below ≡ before.faultless_below

-- The work stopped at an output, as before that step or with a part of what it puts, `IsPart` saying which parts may be.
pub record IsStoppedAt (IsPart : List ℕ → List ℕ → Type 0) (before now : FolderState) (base : List ℕ) (texts : Texts) (output : Output) : Type 0 where
  pub change : HeldFiles → HeldFiles
  pub bytes : ℕ
  pub at : StopsAt IsPart base texts output change bytes
  pub makes : Makes before now change bytes

-- Why the writing of all files stops where that of one does.
abbrev pub stop_at_output : Output → BeginStop → OutputStop
stop_at_output output begin_stop.Failed = stop.Unwritten output
stop_at_output output begin_stop.Memory = stop.Memory

-- All files were written in their order and none is begun, or the work stopped at one of them: with a first part of it where a fault of writing was
-- counted, and with nothing of it where memory was refused.
abbrev pub WritesAll : FolderState → FolderState → List ℕ → Texts → Result ⊤ OutputStop → Type 0
WritesAll before now base texts (Ok _) = Makes before now (with_table base texts texts.table) (both_lengths texts + length texts.table) × (now.begun ≡ None)
WritesAll before now base texts (Err (stop.Unwritten output)) = IsStoppedAt IsFrontOf before now base texts output × Rose before.write_faults now.write_faults
WritesAll before now base texts (Err stop.Memory) = (output : Output) × IsStoppedAt IsEmptyFrontOf before now base texts output
