-- How compiling, printing and the writing of files end a run.
use Rattle.std.proofs.Common.{◌≡◌, ℕ, List, Option, None, Some, option_map, Result, Ok, Err, refl, sym, ◌∙◌, ap, subst, IfOk, length, arith}
use Rattle.std.specs.Prelude.{⊤, ◌+◌}
use Rattle.std.proofs.lemmas.List.Elements.{recursion_from_All}
use Rattle.zim_fault.specs.declared.faults.Fault.{Fault}
use Rattle.zim_gate.specs.Counts.{Rose, count_on, IsFrontOf}
use Rattle.zim_gate.specs.Folder.{FolderState, HeldFiles, OnlyRead}
use Rattle.zim_gate.specs.Sink.{SinkState, SinkStopsIn}
use Rattle.zim_rows.specs.Finished.{program_of}
use Rattle.zim_rows.specs.Program.{LinearProgram}
use Rattle.zim_lp.proofs.TextLaws as lp
use Rattle.zim_mps.proofs.TextLaws as mps
use Rattle.zim_table.specs.Correct.{IsListed, CanBeListed}
use Rattle.zim_table.specs.declared.names.Names.{Names}
use Rattle.zim_table.proofs.TextLaws as table
use Rattle.zim_build.specs.declared.compiled.Compiled.{Compiled}
use Rattle.zim_build.specs.declared.compiled.BuildFault.{BuildFault}
use Rattle.zim_build.specs.declared.compiled.BuildFault.TheVariants as build
use Rattle.zim_build.specs.Compile.{IsCompiledFor, Compiles}
use Rattle.zim_build.specs.Model.{statement_names}
use Rattle.zim_cli.specs.declared.outputs.Output.{Output}
use Rattle.zim_cli.specs.declared.outputs.Output.TheVariants.{Lp, Mps, Table}
use Rattle.zim_cli.specs.declared.outputs.OutputNames.{OutputNames}
use Rattle.zim_cli.specs.declared.outputs.OutputStop.{OutputStop}
use Rattle.zim_cli.specs.declared.outputs.OutputStop.TheVariants as stop
use Rattle.zim_cli.specs.declared.ending.Ending.{Ending}
use Rattle.zim_cli.specs.declared.ending.Ending.TheVariants as ending
use Rattle.zim_cli.specs.declared.jobs.Job.{Job}
use Rattle.zim_cli.specs.declared.jobs.Job.TheVariants.{Compile}
use Rattle.zim_cli.specs.Ending.{IsReportable, ending_of_writing}
use Rattle.zim_cli.specs.FilesOf.{AreFilesOf}
use Rattle.zim_cli.specs.Outputs as outputs
use Rattle.zim_cli.specs.Outputs.{AreNamesOf, name_in, output_name, Texts, both_lengths, texts_of, with_table, IsEmptyFrontOf, IsStoppedAt, WritesAll}
use Rattle.zim_cli.specs.Printing.{TakesPrinted, EndsWith, put, failed, EndsUncompiled, by_model, by_fault, by_unread}
use Rattle.zim_cli.specs.WriteFile.{KeepsFiles}
use Rattle.zim_cli.specs.Run as run
use Rattle.zim_cli.specs.Run.{Ended, OfModel}
use Rattle.zim_cli.proofs.FilesOfLemmas.{files_of_program}
use Rattle.zim_cli.proofs.PairLemmas.{numbered_in}

keeps : (before now : FolderState) → OnlyRead before now → KeepsFiles before now
keeps before now only = record { held = only.held; wrote = only.wrote; faultless_below = only.faultless_below }

-- what compiling answers, where its result is known
pub compiles_to : (before now : FolderState) (model : List ℕ) (r known : Result Compiled BuildFault) → r ≡ known → Compiles before now model r → Compiles before now model known
compiles_to before now model r known is compiles = subst (Compiles before now model) is compiles

-- ---- a model that is refused or unread, with what it prints put or not

refused_ends : (before now : FolderState) (o n : SinkState) (model base : List ℕ) (fault : Fault) (opened : List (List ℕ)) (printed : List ℕ) (e : Ending) → Compiles before now model (Err (build.Refused fault opened printed)) →
    EndsWith o n printed (ending.Refused fault opened) e → Ended (Some (Compile model base)) before now o n e
refused_ends before now o n model base fault opened printed _ compiles (put takes) =
    run.refused model base fault opened printed refl compiles.answers.place compiles.answers.own compiles.answers.read compiles.answers.printable takes (keeps before now compiles.only)
refused_ends before now o n model base fault opened printed _ compiles (failed stops) =
    run.unput model base printed refl (by_fault fault opened compiles.answers.read compiles.answers.printable) stops (keeps before now compiles.only)

-- the line of a refusal can be put
refused_reports : (before now : FolderState) (o n : SinkState) (model : List ℕ) (fault : Fault) (opened : List (List ℕ)) (printed : List ℕ) (e : Ending) → Compiles before now model (Err (build.Refused fault opened printed)) →
    EndsWith o n printed (ending.Refused fault opened) e → IsReportable e
refused_reports before now o n model fault opened printed _ compiles (put takes) = compiles.answers.place
refused_reports before now o n model fault opened printed _ compiles (failed stops) = tt

unread_ends : (before now : FolderState) (o n : SinkState) (model base name printed : List ℕ) (e : Ending) → Compiles before now model (Err (build.Read name printed)) → EndsWith o n printed (ending.Unread name) e →
    Ended (Some (Compile model base)) before now o n e
unread_ends before now o n model base name printed _ compiles (put takes) =
    run.unread model base name printed refl compiles.answers takes (keeps before now compiles.only)
unread_ends before now o n model base name printed _ compiles (failed stops) =
    run.unput model base printed refl (by_unread name compiles.answers) stops (keeps before now compiles.only)

unread_reports : (o n : SinkState) (name printed : List ℕ) (e : Ending) → EndsWith o n printed (ending.Unread name) e → IsReportable e
unread_reports o n name printed _ (put takes) = tt
unread_reports o n name printed _ (failed stops) = tt

-- what wasn't compiled, whatever the reason
pub uncompiled_ends : (before now : FolderState) (o n : SinkState) (model base : List ℕ) (why : BuildFault) (e : Ending) → Compiles before now model (Err why) → EndsUncompiled o n why e →
    Ended (Some (Compile model base)) before now o n e
uncompiled_ends before now o n model base (build.Refused fault opened printed) e compiles ends = refused_ends before now o n model base fault opened printed e compiles ends
uncompiled_ends before now o n model base (build.Read name printed) e compiles ends = unread_ends before now o n model base name printed e compiles ends
uncompiled_ends before now o n model base build.Memory e compiles ends =
    subst (λ (x : Ending). Ended (Some (Compile model base)) before now o n x) (sym ends.0) (run.no_memory ends.1 (keeps before now compiles.only))

pub uncompiled_reports : (before now : FolderState) (o n : SinkState) (model : List ℕ) (why : BuildFault) (e : Ending) → Compiles before now model (Err why) → EndsUncompiled o n why e → IsReportable e
uncompiled_reports before now o n model (build.Refused fault opened printed) e compiles ends = refused_reports before now o n model fault opened printed e compiles ends
uncompiled_reports before now o n model (build.Read name printed) e compiles ends = unread_reports o n name printed e ends
uncompiled_reports before now o n model build.Memory e compiles ends = subst IsReportable (sym ends.0) tt

-- memory was refused before anything was put
pub memory_ends : (before now : FolderState) (o : SinkState) (model base : List ℕ) (r : Result Compiled BuildFault) → Compiles before now model r → Ended (Some (Compile model base)) before now o o ending.Memory
memory_ends before now o model base r compiles = run.no_memory refl (keeps before now compiles.only)

-- what a model prints couldn't be put
pub model_unput : (before now : FolderState) (o n : SinkState) (model base : List ℕ) (made : Compiled) → Compiles before now model (Ok made) → SinkStopsIn o n made.printed → Ended (Some (Compile model base)) before now o n ending.Unput
model_unput before now o n model base made compiles stops =
    run.unput model base made.printed refl (by_model compiles.answers.model made.files compiles.answers.read compiles.answers.is.printed) stops (keeps before now compiles.only)

-- ---- a compiled model

-- its table can be written
pub can_be_listed : (before now : FolderState) (model : List ℕ) (made : Compiled) → Compiles before now model (Ok made) → CanBeListed (program_of made.system) made.columns made.names
can_be_listed before now model made compiles = compiles.answers.is.listable

-- the texts of its program are its files
its_files : (before : FolderState) (name : List ℕ) (made : Compiled) (for : IsCompiledFor before name made) → AreFilesOf for.model made.columns (texts_of (program_of made.system) made.columns made.names)
its_files before name made for =
    let program : LinearProgram = program_of made.system in
    files_of_program for.model made.columns program made.names made.system.program for.is.says for.is.columns
    for.is.listable.rising
    (numbered_in (length program.columns) 1 made.columns (omega arith) for.is.listable.rising (recursion_from_All (IsListed (length program.columns)) made.columns for.is.listable.listed))
    (lp.text_says program made.system.program)
    (mps.text_says program made.system.program)
    (table.text_says program made.columns made.names made.system.program for.is.parts for.is.listable)

of_model : (before : FolderState) (name : List ℕ) (made : Compiled) (for : IsCompiledFor before name made) (Is : (printed : List ℕ) → Texts → Type 0) → Is made.printed (texts_of (program_of made.system) made.columns made.names) → OfModel before.held name Is
of_model before name made for Is is =
    let program : LinearProgram = program_of made.system in
    record {
      model = for.model;
      opened = made.files;
      read = for.read;
      columns = made.columns;
      program = program;
      is_program = for.is.program;
      say = subst (λ (names : Names). AreFilesOf for.model made.columns (texts_of program made.columns names)) for.is.names (its_files before name made for);
      is = subst (λ (printed : List ℕ). Is printed (texts_of program made.columns (statement_names for.model))) for.is.printed
          (subst (λ (names : Names). Is made.printed (texts_of program made.columns names)) for.is.names is);
    }

-- what is said of the files before the writing is said of those before the compilation
makes_since : (before between now : FolderState) (change : HeldFiles → HeldFiles) (n : ℕ) → KeepsFiles before between → outputs.Makes between now change n → outputs.Makes before now change n
makes_since before between now change n same makes = record {
  held = makes.held ∙ ap (λ (held : Option HeldFiles). option_map change held) same.held;
  wrote = makes.wrote ∙ ap (λ (wrote : Option ℕ). option_map (count_on n) wrote) same.wrote;
  faultless_below = makes.faultless_below ∙ same.faultless_below;
}

stopped_since : (IsPart : List ℕ → List ℕ → Type 0) (before between now : FolderState) (base : List ℕ) (texts : Texts) (output : Output) → KeepsFiles before between → IsStoppedAt IsPart between now base texts output → IsStoppedAt IsPart before now base texts output
stopped_since IsPart before between now base texts output same stopped =
    record { change = stopped.change; bytes = stopped.bytes; at = stopped.at; makes = makes_since before between now stopped.change stopped.bytes same stopped.makes }

named : (base : List ℕ) (names : OutputNames) (output : Output) → AreNamesOf base names → name_in names output ≡ output_name base output
named base names Lp are = are.lp
named base names Mps are = are.mps
named base names Table are = are.table

-- ---- the writing

-- the texts that are written for what was compiled
abbrev written : Compiled → Texts
written made = texts_of (program_of made.system) made.columns made.names

ends : (before between now : FolderState) (o n : SinkState) (model base : List ℕ) (made : Compiled) (names : OutputNames) (w : Result ⊤ OutputStop) → AreNamesOf base names → Compiles before between model (Ok made) → TakesPrinted o n made.printed →
    WritesAll between now base (written made) w → Ended (Some (Compile model base)) before now o n (ending_of_writing names w)
ends before between now o n model base made names (Ok x) are by takes writes =
    run.done model base refl writes.1
    (of_model before model made by.answers (λ (printed : List ℕ) (texts : Texts). TakesPrinted o n printed × outputs.Makes before now (with_table base texts texts.table) (both_lengths texts + length texts.table))
    (takes, makes_since before between now _ _ (keeps before between by.only) writes.0))
ends before between now o n model base made names (Err (stop.Unwritten output)) are by takes writes =
    subst (λ (name : List ℕ). Ended (Some (Compile model base)) before now o n (ending.Unwritten name)) (sym (named base names output are))
    (run.unwritten model base output refl
    (subst (λ (count : ℕ). Rose count now.write_faults) by.only.write_faults writes.1)
    (of_model before model made by.answers (λ (printed : List ℕ) (texts : Texts). TakesPrinted o n printed × IsStoppedAt IsFrontOf before now base texts output)
    (takes, stopped_since IsFrontOf before between now base (written made) output (keeps before between by.only) writes.0)))
ends before between now o n model base made names (Err stop.Memory) are by takes (output, stopped) =
    run.no_memory_to_begin model base output refl
    (of_model before model made by.answers (λ (printed : List ℕ) (texts : Texts). TakesPrinted o n printed × IsStoppedAt IsEmptyFrontOf before now base texts output)
    (takes, stopped_since IsEmptyFrontOf before between now base (written made) output (keeps before between by.only) stopped))

-- the writing was done, or stopped
pub ended_by : (before between now : FolderState) (o n : SinkState) (model base : List ℕ) (made : Compiled) (names : OutputNames) (w : Result ⊤ OutputStop) (e : Ending) → e ≡ ending_of_writing names w → AreNamesOf base names →
    Compiles before between model (Ok made) → TakesPrinted o n made.printed → WritesAll between now base (written made) w → Ended (Some (Compile model base)) before now o n e
ended_by before between now o n model base made names w e is are by takes writes =
    subst (λ (x : Ending). Ended (Some (Compile model base)) before now o n x) (sym is) (ends before between now o n model base made names w are by takes writes)

-- the words are no job
pub usage_by : {E : Type 0} (before : FolderState) (o : SinkState) (job : Option Job) (r : Result (Option Job) E) (found : Option Job) → r ≡ Ok found → found ≡ None → IfOk r (λ (read : Option Job). read ≡ job) →
    Ended job before before o o ending.Usage
usage_by {E} before o job r found is none ok =
    run.usage (sym (subst (λ (x : Result (Option Job) E). IfOk x (λ (read : Option Job). read ≡ job)) (is ∙ ap Ok none) ok)) refl refl

-- memory was refused for the job
pub job_refused : (before : FolderState) (o : SinkState) (job : Option Job) → Ended job before before o o ending.Memory
job_refused before o job = run.no_memory refl (record { held = refl; wrote = refl; faultless_below = refl })
