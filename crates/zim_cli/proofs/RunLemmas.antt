-- What follows from the way in which a run ended.
use Rattle.std.proofs.Common.{◌≡◌, ℕ, List, Option, None, Some, inl, inr, refl, subst}
use Rattle.std.specs.Prelude.{◌⊎◌, IfSome}
use Rattle.zim_fault.specs.declared.faults.Fault.{Fault}
use Rattle.zim_gate.specs.Counts.{Rose}
use Rattle.zim_gate.specs.Folder.{FolderState, HeldFiles}
use Rattle.zim_gate.specs.Sink.{SinkState}
use Rattle.zim_build.specs.Compile.{WhereTold, StaysUnread}
use Rattle.zim_build.specs.Reading.{HasModel, HasFirstFault, MissesFile, OpensNamedFile}
use Rattle.zim_build.proofs.ModelLaws.{at_most_one}
use Rattle.zim_cli.specs.declared.ending.Ending.{Ending}
use Rattle.zim_cli.specs.declared.jobs.Job.{Job}
use Rattle.zim_cli.specs.declared.jobs.Job.TheVariants.{Compile}
use Rattle.zim_cli.specs.Ending.{status_of}
use Rattle.zim_cli.specs.Headline.{NothingRose, MustBeUsage, MustBeDone, MustBeRefused, MustBeReadFault}
use Rattle.zim_cli.specs.Outputs.{Texts}
use Rattle.zim_cli.specs.Run.{Ended, OfModel, usage, refused, unread, unput, unwritten, no_memory, no_memory_to_begin, done}

-- what is so where files are told is so of those that are known to be told
pub of_told : (held : Option HeldFiles) (files : HeldFiles) (Is : HeldFiles → Type 0) → held ≡ Some files → WhereTold held Is → Is files
of_told None files Is e told = absurd (cc)
of_told (Some found) files Is e told =
    let same : found ≡ files = cc in
    subst Is same told

-- an unread file is one that the model misses, or a call of reading failed
unread_told : (before now : FolderState) (model name printed : List ℕ) (files : HeldFiles) → before.held ≡ Some files → StaysUnread before now model name printed → MissesFile files model name printed ⊎ Rose before.read_faults now.read_faults
unread_told before now model name printed files e why = at before.held e why.told where
  at : (held : Option HeldFiles) → held ≡ Some files → IfSome held (λ files. MissesFile files model name printed ⊎ (Rose before.read_faults now.read_faults × OpensNamedFile files model name printed)) → MissesFile files model name printed ⊎ Rose before.read_faults now.read_faults
  at None is told = absurd (cc)
  at (Some found) is (inl misses) = let same : found ≡ files = cc in inl (subst (λ (f : HeldFiles). MissesFile f model name printed) same misses)
  at (Some found) is (inr rose) = inr rose.0

-- where no call of reading failed and the model misses no file, none is unread
none_unread : (before now : FolderState) (model name printed : List ℕ) (files : HeldFiles) → before.held ≡ Some files → StaysUnread before now model name printed → ((missing text : List ℕ) → ¬ MissesFile files model missing text) → NothingRose before now → ⊥
none_unread before now model name printed files e why has nothing = by (unread_told before now model name printed files e why) where
  by : MissesFile files model name printed ⊎ Rose before.read_faults now.read_faults → ⊥
  by (inl misses) = has name printed misses
  by (inr rose) = nothing.reads rose

-- two jobs that are one have one model
pub same_model : (job : Option Job) (model base other over : List ℕ) → job ≡ Some (Compile model base) → job ≡ Some (Compile other over) → model ≡ other
same_model job model base other over e f = cc

-- the reasons for an ending, at the model of the job
pub model_is : (job : Option Job) (model base other over : List ℕ) (P : List ℕ → Type 0) → job ≡ Some (Compile model base) → job ≡ Some (Compile other over) → P other → P model
model_is job model base other over P e f at = subst P (same_model job other over model base f e) at

pub no_job : (job : Option Job) (model base : List ℕ) → job ≡ None → job ≡ Some (Compile model base) → ⊥
no_job job model base none some = cc

-- the job's model that is refused
refused_model : (before : FolderState) (job : Option Job) (model base other over : List ℕ) (files : HeldFiles) (fault : Fault) (opened : List (List ℕ)) (printed : List ℕ) → job ≡ Some (Compile model base) → job ≡ Some (Compile other over) →
    before.held ≡ Some files → WhereTold before.held (λ f. HasFirstFault f other fault opened printed) → HasFirstFault files model fault opened printed
refused_model before job model base other over files fault opened printed e f at why =
    model_is job model base other over (λ (name : List ℕ). HasFirstFault files name fault opened printed) e f (of_told before.held files (λ f. HasFirstFault f other fault opened printed) at why)

-- the model that the files are of
pub model_of : (before : FolderState) (job : Option Job) (model base other over : List ℕ) (files : HeldFiles) (Is : List ℕ → Texts → Type 0) → job ≡ Some (Compile model base) → job ≡ Some (Compile other over) → before.held ≡ Some files →
    (of : OfModel before.held other Is) → HasModel files model of.model of.opened
model_of before job model base other over files Is e f at of =
    model_is job model base other over (λ (name : List ℕ). HasModel files name of.model of.opened) e f (of_told before.held files (λ f. HasModel f other of.model of.opened) at of.read)

module _ (job : Option Job) (before now : FolderState) (out_before out_now : SinkState) where
  -- words that are no job
  pub must_be_usage : (ending : Ending) → Ended job before now out_before out_now ending → MustBeUsage job (status_of ending)
  must_be_usage _ (usage none same untouched) e = inl refl
  must_be_usage _ (refused model base fault opened printed f place own why may takes held) e = absurd (no_job job model base e f)
  must_be_usage _ (unread model base name printed f why takes held) e = absurd (no_job job model base e f)
  must_be_usage _ (unput model base printed f why stops held) e = absurd (no_job job model base e f)
  must_be_usage _ (unwritten model base output f rose stopped) e = absurd (no_job job model base e f)
  must_be_usage _ (no_memory untouched held) e = inr refl
  must_be_usage _ (no_memory_to_begin model base output f stopped) e = inr refl
  must_be_usage _ (done model base f none_begun written) e = absurd (no_job job model base e f)

  -- a model, where nothing failed
  pub must_be_done : (ending : Ending) → Ended job before now out_before out_now ending → MustBeDone job before now out_before out_now (status_of ending)
  must_be_done _ (usage none same untouched) name base files model opened is at has nothing whole = absurd (no_job job name base none is)
  must_be_done _ (refused other over fault others printed f place own why may takes held) name base files model opened is at has nothing whole =
      absurd ((at_most_one files name).model_or_fault model opened fault others printed has (refused_model before job name base other over files fault others printed is f at why))
  must_be_done _ (unread other over file printed f why takes held) name base files model opened is at has nothing whole =
      absurd (none_unread before now name file printed files at (model_is job name base other over (λ (m : List ℕ). StaysUnread before now m file printed) is f why) (λ missing text. (at_most_one files name).model_or_missing model opened missing text has) nothing)
  must_be_done _ (unput other over printed f why stops held) name base files model opened is at has nothing whole = absurd (whole stops.rose)
  must_be_done _ (unwritten other over output f rose stopped) name base files model opened is at has nothing whole = absurd (nothing.writes rose)
  must_be_done _ (no_memory untouched held) name base files model opened is at has nothing whole = inr refl
  must_be_done _ (no_memory_to_begin other over output f stopped) name base files model opened is at has nothing whole = inr refl
  must_be_done _ (done other over f none_begun written) name base files model opened is at has nothing whole = inl refl

  -- what has a first fault, where nothing failed
  pub must_be_refused : (ending : Ending) → Ended job before now out_before out_now ending → MustBeRefused job before now out_before out_now (status_of ending)
  must_be_refused _ (usage none same untouched) name base files fault opened printed is at first nothing whole = absurd (no_job job name base none is)
  must_be_refused _ (refused other over met others text f place own why may takes held) name base files fault opened printed is at first nothing whole = inl refl
  must_be_refused _ (unread other over file text f why takes held) name base files fault opened printed is at first nothing whole =
      absurd (none_unread before now name file text files at (model_is job name base other over (λ (m : List ℕ). StaysUnread before now m file text) is f why) (λ missing more. (at_most_one files name).fault_or_missing fault opened printed missing more first) nothing)
  must_be_refused _ (unput other over text f why stops held) name base files fault opened printed is at first nothing whole = absurd (whole stops.rose)
  must_be_refused _ (unwritten other over output f rose stopped) name base files fault opened printed is at first nothing whole = absurd (nothing.writes rose)
  must_be_refused _ (no_memory untouched held) name base files fault opened printed is at first nothing whole = inr refl
  must_be_refused _ (no_memory_to_begin other over output f stopped) name base files fault opened printed is at first nothing whole = inr refl
  must_be_refused _ (done other over f none_begun written) name base files fault opened printed is at first nothing whole =
      absurd ((at_most_one files name).model_or_fault written.model written.opened fault opened printed (model_of before job name base other over files _ is f at written) first)

  -- what misses a file
  pub must_be_read_fault : (ending : Ending) → Ended job before now out_before out_now ending → MustBeReadFault job before out_before out_now (status_of ending)
  must_be_read_fault _ (usage none same untouched) name base missing printed files is at misses = absurd (no_job job name base none is)
  must_be_read_fault _ (refused other over fault others text f place own why may takes held) name base missing printed files is at misses =
      absurd ((at_most_one files name).fault_or_missing fault others text missing printed (refused_model before job name base other over files fault others text is f at why) misses)
  must_be_read_fault _ (unread other over file text f why takes held) name base missing printed files is at misses = inl (inl refl)
  must_be_read_fault _ (unput other over text f why stops held) name base missing printed files is at misses = inr (refl, stops.rose)
  must_be_read_fault _ (unwritten other over output f rose stopped) name base missing printed files is at misses =
      absurd ((at_most_one files name).model_or_missing stopped.model stopped.opened missing printed (model_of before job name base other over files _ is f at stopped) misses)
  must_be_read_fault _ (no_memory untouched held) name base missing printed files is at misses = inl (inr refl)
  must_be_read_fault _ (no_memory_to_begin other over output f stopped) name base missing printed files is at misses = inl (inr refl)
  must_be_read_fault _ (done other over f none_begun written) name base missing printed files is at misses =
      absurd ((at_most_one files name).model_or_missing written.model written.opened missing printed (model_of before job name base other over files _ is f at written) misses)
