-- A table that ends in its last line stands beside whole files, or no file was changed.
use Rattle.std.proofs.Common.{◌≡◌, ℕ, Bool, true, false, cond, List, [], ◌∷◌, Option, None, Some, option_map, inl, inr, refl, sym, ◌∙◌, ap, subst}
use Rattle.std.specs.Prelude.{◌⊎◌, nat_eq}
use Rattle.std.specs.Ordering.{nat_cmp, eq_by_cmp}
use Rattle.std.specs.Cmp.{Equal-is}
use Rattle.std.specs.Cmp.Lexicographic.{pointwise, slice_cmp}
use Rattle.std.specs.FinMap as map
use Rattle.std.proofs.lemmas.List.{append_cancel_left}
use Rattle.zim_gate.specs.Counts.{IsFrontOf}
use Rattle.zim_gate.specs.Folder.{FolderState, HeldFiles, bytes_of_name}
use Rattle.zim_table.specs.Reader.{Table as TableSaid, table}
use Rattle.zim_table.specs.Ended.{EndsInEnd, only_line, last_line}
use Rattle.zim_table.proofs.WholeLaws.{front_is_whole}
use Rattle.zim_cli.specs.declared.ending.Ending.{Ending}
use Rattle.zim_cli.specs.declared.jobs.Job.{Job}
use Rattle.zim_cli.specs.declared.jobs.Job.TheVariants.{Compile}
use Rattle.zim_build.specs.Model.{statement_names}
use Rattle.zim_cli.specs.declared.outputs.Output.{Output}
use Rattle.zim_cli.specs.declared.outputs.Output.TheVariants.{Lp, Mps, Table}
use Rattle.zim_gate.specs.Sink.{SinkState}
use Rattle.zim_cli.specs.Headline.{HoldsAllFiles, EndedTableIsWhole}
use Rattle.zim_cli.specs.Outputs.{Texts, texts_of, ending_text, output_name, without_table, with_lp, with_mps, with_table, StopsAt, untouched, emptied, lp_kept, lp_part, mps_kept, mps_part, table_kept, table_part, IsEmptyFrontOf, IsStoppedAt}
use Rattle.zim_cli.specs.Run.{Ended, OfModel, IsStopped, usage, refused, unread, unput, unwritten, no_memory, no_memory_to_begin, done}
use Rattle.zim_gate.proofs.AppendingLaws.{get_inserted, get_after}

-- no name is that of two outputs
other_name : (base : List ℕ) (output : Output) → (ending_text Table ≡ ending_text output → ⊥) → eq_by_cmp (slice_cmp nat_cmp) (output_name base Table) (output_name base output) ≡ false
other_name base output apart = by_test (eq_by_cmp (slice_cmp nat_cmp) (output_name base Table) (output_name base output)) refl
  where
    by_test : (b : Bool) → eq_by_cmp (slice_cmp nat_cmp) (output_name base Table) (output_name base output) ≡ b → b ≡ false
    by_test true e =
        absurd
        (apart
        (append_cancel_left base (ending_text Table) (ending_text output)
        (map.slice_cmp-IsAntisymmetric map.nat_cmp-IsAntisymmetric _ _ ((Equal-is (slice_cmp nat_cmp (output_name base Table) (output_name base output))).0 e))))
    by_test false e = refl

-- the table's ending, by a test
abbrev is_ending : List ℕ → Bool
is_ending text = pointwise nat_eq text (ending_text Table)

lp_apart : ending_text Table ≡ ending_text Lp → ⊥
lp_apart e = let no : true ≡ false = ap is_ending e in cc

mps_apart : ending_text Table ≡ ending_text Mps → ⊥
mps_apart e = let no : true ≡ false = ap is_ending e in cc

-- what the table's name holds after another output was written
table_kept_by : (base : List ℕ) (output : Output) (files : HeldFiles) (bytes : List ℕ) → (ending_text Table ≡ ending_text output → ⊥) → map.get (map.insert files (output_name base output) bytes) (output_name base Table) ≡ map.get files (output_name base Table)
table_kept_by base output files bytes apart =
    get_after files (output_name base output) bytes (output_name base Table)
    ∙ ap (λ (b : Bool). cond b (Some bytes) (map.get files (output_name base Table))) (other_name base output apart)

-- a text without bytes doesn't end in a line
not_empty : (text : List ℕ) → text ≡ [] → EndsInEnd text → ⊥
not_empty _ e only_line = cc
not_empty _ e (last_line []) = cc
not_empty _ e (last_line (b ∷ before)) = cc

in_some : (text other : List ℕ) → Some other ≡ Some text → text ≡ other
in_some text other e = cc

empty_then : (files : HeldFiles) (base text : List ℕ) → map.get files (output_name base Table) ≡ Some text → map.get files (output_name base Table) ≡ Some [] → EndsInEnd text → ⊥
empty_then files base text at empty ends = not_empty text (in_some text [] (sym empty ∙ at)) ends

table_empty : (base : List ℕ) (files : HeldFiles) → map.get (without_table base files) (output_name base Table) ≡ Some []
table_empty base files = get_inserted files (output_name base Table) []

empty_beside_lp : (base bytes : List ℕ) (files : HeldFiles) → map.get (with_lp base bytes files) (output_name base Table) ≡ Some []
empty_beside_lp base bytes files = table_kept_by base Lp (without_table base files) bytes lp_apart ∙ table_empty base files

empty_beside_mps : (base bytes : List ℕ) (texts : Texts) (files : HeldFiles) → map.get (with_mps base texts bytes files) (output_name base Table) ≡ Some []
empty_beside_mps base bytes texts files = table_kept_by base Mps (with_lp base texts.lp files) bytes mps_apart ∙ empty_beside_lp base texts.lp files

-- what a stop leaves, where the table ends in its last line
left_whole : (IsPart : List ℕ → List ℕ → Type 0) (base : List ℕ) (texts : Texts) (output : Output) (change : HeldFiles → HeldFiles) (n : ℕ) (files : HeldFiles) (text : List ℕ) →
    ((front : List ℕ) → IsPart front texts.table → EndsInEnd front → front ≡ texts.table) → StopsAt IsPart base texts output change n → map.get (change files) (output_name base Table) ≡ Some text → EndsInEnd text → (change files ≡ files) ⊎ (change files ≡ with_table base texts texts.table files)
left_whole IsPart base texts _ _ _ files text whole untouched at ends = inl refl
left_whole IsPart base texts _ _ _ files text whole emptied at ends = absurd (empty_then _ base text at (table_empty base files) ends)
left_whole IsPart base texts _ _ _ files text whole lp_kept at ends = absurd (empty_then _ base text at (table_empty base files) ends)
left_whole IsPart base texts _ _ _ files text whole (lp_part front is) at ends = absurd (empty_then _ base text at (empty_beside_lp base front files) ends)
left_whole IsPart base texts _ _ _ files text whole mps_kept at ends = absurd (empty_then _ base text at (empty_beside_lp base texts.lp files) ends)
left_whole IsPart base texts _ _ _ files text whole (mps_part front is) at ends = absurd (empty_then _ base text at (empty_beside_mps base front texts files) ends)
left_whole IsPart base texts _ _ _ files text whole table_kept at ends = absurd (empty_then _ base text at (empty_beside_mps base texts.mps texts files) ends)
left_whole IsPart base texts _ _ _ files text whole (table_part front is) at ends =
    let held : text ≡ front = in_some text front (sym (get_inserted (with_mps base texts texts.mps files) (output_name base Table) front) ∙ at) in
    inr (ap (λ (bytes : List ℕ). with_table base texts bytes files) (whole front is (subst EndsInEnd held ends)))

-- two jobs that are one have one model and one base
same_job : (P : List ℕ → List ℕ → Type 0) (job : Option Job) (other over model base : List ℕ) → job ≡ Some (Compile other over) → job ≡ Some (Compile model base) → P other over → P model base
same_job P job other over model base e f at =
    let first : other ≡ model = cc in
    let second : over ≡ base = cc in
    subst (λ (m : List ℕ). P m base) first (subst (λ (b : List ℕ). P other b) second at)

-- a stop, with the files before and after it
record HeldStop (IsPart : List ℕ → List ℕ → Type 0) (base : List ℕ) (texts : Texts) (output : Output) (before now : Option HeldFiles) : Type 0 where
  change : HeldFiles → HeldFiles
  bytes : ℕ
  at : StopsAt IsPart base texts output change bytes
  held : now ≡ option_map change before

-- all files written, with the files before and after that
abbrev AllHeld : List ℕ → Option HeldFiles → Option HeldFiles → Texts → Type 0
AllHeld base before now texts = now ≡ option_map (with_table base texts texts.table) before

-- what is so of what a model prints and of its texts is so of them in another way
of_all : (Is Other : List ℕ → Texts → Type 0) (held : Option HeldFiles) (name : List ℕ) → ((printed : List ℕ) (texts : Texts) → Is printed texts → Other printed texts) → OfModel held name Is → OfModel held name Other
of_all Is Other held name then of = record {
  model = of.model;
  opened = of.opened;
  read = of.read;
  columns = of.columns;
  program = of.program;
  is_program = of.is_program;
  say = of.say;
  is = then _ _ of.is;
}

-- parts of a table that end in its last line are the table
abbrev PartsAreWhole : (List ℕ → List ℕ → Type 0) → Type 0
PartsAreWhole IsPart = (text front : List ℕ) (said : TableSaid) → table text ≡ Some said → IsPart front text → EndsInEnd front → front ≡ text

-- what a stop leaves of files that may not be told
left_in : (IsPart : List ℕ → List ℕ → Type 0) (base : List ℕ) (texts : Texts) (output : Output) (change : HeldFiles → HeldFiles) (n : ℕ) (before : Option HeldFiles) (text : List ℕ) →
    ((front : List ℕ) → IsPart front texts.table → EndsInEnd front → front ≡ texts.table) → StopsAt IsPart base texts output change n → bytes_of_name (option_map change before) (output_name base Table) ≡ Some text → EndsInEnd text →
    (option_map change before ≡ before) ⊎ (option_map change before ≡ option_map (with_table base texts texts.table) before)
left_in IsPart base texts output change n None text whole at is ends = inl refl
left_in IsPart base texts output change n (Some files) text whole at is ends = by (left_whole IsPart base texts output change n files text whole at is ends)
  where
    by : (change files ≡ files) ⊎ (change files ≡ with_table base texts texts.table files) → (Some (change files) ≡ Some files) ⊎ (Some (change files) ≡ Some (with_table base texts texts.table files))
    by (inl same) = inl (ap Some same)
    by (inr written) = inr (ap Some written)

stop_is_whole : (IsPart : List ℕ → List ℕ → Type 0) (before now : FolderState) (o n : SinkState) (base text name : List ℕ) (output : Output) → PartsAreWhole IsPart → IsStopped IsPart before now o n name base output →
    bytes_of_name now.held (output_name base Table) ≡ Some text → EndsInEnd text → (now.held ≡ before.held) ⊎ HoldsAllFiles before now name base
stop_is_whole IsPart before now o n base text name output parts of at ends =
    by (left_in IsPart base texts output stopped.change stopped.bytes before.held text (λ front is. parts _ front of.say.names of.say.table_reads is) stopped.at (sym (ap (λ (held : Option HeldFiles). bytes_of_name held (output_name base Table)) stopped.makes.held) ∙ at) ends)
  where
    texts : Texts
    texts = texts_of of.program of.columns (statement_names of.model)

    stopped : IsStoppedAt IsPart before now base texts output
    stopped = of.is.1

    by : (option_map stopped.change before.held ≡ before.held) ⊎ (option_map stopped.change before.held ≡ option_map (with_table base texts texts.table) before.held) → (now.held ≡ before.held) ⊎ HoldsAllFiles before now name base
    by (inl same) = inl (stopped.makes.held ∙ same)
    by (inr written) = inr (record {
      model = of.model;
      opened = of.opened;
      read = of.read;
      columns = of.columns;
      program = of.program;
      is_program = of.is_program;
      say = of.say;
      is = stopped.makes.held ∙ written;
    })

-- two jobs that are one have one model and one base
stopped_is_whole : (IsPart : List ℕ → List ℕ → Type 0) (before now : FolderState) (o n : SinkState) (model base other over text : List ℕ) (output : Output) (job : Option Job) → PartsAreWhole IsPart → job ≡ Some (Compile other over) → job ≡ Some (Compile model base) →
    IsStopped IsPart before now o n other over output → bytes_of_name now.held (output_name base Table) ≡ Some text → EndsInEnd text → (now.held ≡ before.held) ⊎ HoldsAllFiles before now model base
stopped_is_whole IsPart before now o n model base other over text output job parts f is stopped at ends =
    stop_is_whole IsPart before now o n base text model output parts
    (same_job (λ (m b : List ℕ). IsStopped IsPart before now o n m b output) job other over model base f is stopped)
    at ends

front_parts : PartsAreWhole IsFrontOf
front_parts = front_is_whole

no_part_is_whole : PartsAreWhole IsEmptyFrontOf
no_part_is_whole text front said e is ends = absurd (not_empty front is ends)

-- beside a table of this run that ends in its last line, the other files are whole
pub ended_table : (job : Option Job) (before now : FolderState) (o n : SinkState) (ending : Ending) → Ended job before now o n ending → EndedTableIsWhole job before now
ended_table job before now o n _ (usage none same still) model base text is at ends = inl (ap (λ (state : FolderState). state.held) same)
ended_table job before now o n _ (refused other over fault opened printed f place own why may takes held) model base text is at ends = inl held.held
ended_table job before now o n _ (unread other over name printed f why takes held) model base text is at ends = inl held.held
ended_table job before now o n _ (unput other over printed f why stops held) model base text is at ends = inl held.held
ended_table job before now o n _ (unwritten other over output f rose stopped) model base text is at ends =
    stopped_is_whole IsFrontOf before now o n model base other over text output job front_parts f is stopped at ends
ended_table job before now o n _ (no_memory still held) model base text is at ends = inl held.held
ended_table job before now o n _ (no_memory_to_begin other over output f stopped) model base text is at ends =
    stopped_is_whole IsEmptyFrontOf before now o n model base other over text output job no_part_is_whole f is stopped at ends
ended_table job before now o n _ (done other over f none_begun of) model base text is at ends =
    inr
    (same_job (λ (m b : List ℕ). HoldsAllFiles before now m b) job other over model base f is
    (of_all _ (λ (printed : List ℕ) (texts : Texts). now.held ≡ option_map (with_table over texts texts.table) before.held) before.held other (λ printed texts both. both.1.held) of))
