-- A folder that promises to fail at nothing fails at nothing in a run that has room below the limit of its promise.
use Rattle.std.proofs.Common.{◌≡◌, ℕ, ◌+◌, ◌<◌, ◌≤◌, List, ◌++◌, length, Option, Some, option_map, inl, inr, ◌∙◌, ap, arith, length-append}
use Rattle.zim_gate.specs.Counts.{Rose, count_on, IsFrontOf}
use Rattle.zim_gate.specs.Folder.{FolderState, HeldFiles, IsSound}
use Rattle.zim_gate.specs.Sink.{SinkState}
use Rattle.zim_cli.specs.declared.ending.Ending.{Ending}
use Rattle.zim_cli.specs.declared.jobs.Job.{Job}
use Rattle.zim_cli.specs.declared.jobs.Job.TheVariants.{Compile}
use Rattle.zim_cli.specs.declared.outputs.Output.{Output}
use Rattle.zim_cli.specs.Headline.{NothingRose, HasRoom, MustNotFail}
use Rattle.zim_build.specs.Model.{statement_names}
use Rattle.zim_cli.specs.Outputs.{Texts, texts_of, all_lengths, Makes, IsEmptyFrontOf, StopsAt, untouched, emptied, lp_kept, lp_part, mps_kept, mps_part, table_kept, table_part}
use Rattle.zim_cli.specs.Run.{Ended, OfModel, IsStopped, usage, refused, unread, unput, unwritten, no_memory, no_memory_to_begin, done}
use Rattle.zim_cli.specs.WriteFile.{KeepsFiles}
use Rattle.zim_cli.proofs.RunLemmas.{no_job, model_of}

-- a count that is 0 didn't rise
none_rose : (before now : ℕ) → now ≡ 0 → Rose before now → ⊥
none_rose before now none (inl low) = absurd (omega (arith, none, low))
none_rose before now none (inr last) = absurd (omega (arith, none, last))

-- the promise was kept
nothing_rose : (before now : FolderState) (wrote limit : ℕ) → IsSound now → now.wrote ≡ Some wrote → now.faultless_below ≡ Some limit → wrote < limit → NothingRose before now
nothing_rose before now wrote limit sound told promise low =
    let none = sound.faultless limit wrote promise told low in
    record { reads = none_rose before.read_faults now.read_faults none.0; writes = none_rose before.write_faults now.write_faults none.1 }

-- where no byte was put
kept_below : (before now : FolderState) (wrote limit : ℕ) → IsSound now → before.wrote ≡ Some wrote → before.faultless_below ≡ Some limit → wrote < limit → KeepsFiles before now → NothingRose before now
kept_below before now wrote limit sound told promise low keeps =
    nothing_rose before now wrote limit sound (keeps.wrote ∙ told) (keeps.faultless_below ∙ promise) low

-- where so many were
made_below : (before now : FolderState) (change : HeldFiles → HeldFiles) (n wrote limit : ℕ) → IsSound now → before.wrote ≡ Some wrote → before.faultless_below ≡ Some limit → wrote + n < limit → Makes before now change n → NothingRose before now
made_below before now change n wrote limit sound told promise low makes =
    nothing_rose before now (count_on n wrote) limit sound (makes.wrote ∙ ap (option_map (count_on n)) told) (makes.faultless_below ∙ promise) (omega (arith, low))

-- a part of a text isn't longer than it
abbrev AreShort : (List ℕ → List ℕ → Type 0) → Type 0
AreShort IsPart = (front text : List ℕ) → IsPart front text → length front ≤ length text

fronts_short : AreShort IsFrontOf
fronts_short front text is =
    let same : length (front ++ is.rest) ≡ length text = ap length is.whole in omega (arith, length-append front is.rest, same)

empty_short : AreShort IsEmptyFrontOf
empty_short front text is = let none : length front ≡ 0 = ap length is in omega (arith, none)

-- where the writing stopped, no more than the texts was put
stops_within : (IsPart : List ℕ → List ℕ → Type 0) (base : List ℕ) (texts : Texts) (output : Output) (change : HeldFiles → HeldFiles) (n : ℕ) → AreShort IsPart → StopsAt IsPart base texts output change n → n ≤ all_lengths texts
stops_within IsPart base texts _ _ _ short untouched = omega arith
stops_within IsPart base texts _ _ _ short emptied = omega arith
stops_within IsPart base texts _ _ _ short lp_kept = omega arith
stops_within IsPart base texts _ _ _ short (lp_part front is) = omega (arith, short front texts.lp is)
stops_within IsPart base texts _ _ _ short mps_kept = omega arith
stops_within IsPart base texts _ _ _ short (mps_part front is) = omega (arith, short front texts.mps is)
stops_within IsPart base texts _ _ _ short table_kept = omega arith
stops_within IsPart base texts _ _ _ short (table_part front is) = omega (arith, short front texts.table is)

-- what a model's texts are, at the room of the run
room_of : (job : Option Job) (before : FolderState) (model base other over : List ℕ) (files : HeldFiles) (wrote limit : ℕ) (Is : List ℕ → Texts → Type 0) → job ≡ Some (Compile model base) → job ≡ Some (Compile other over) → before.held ≡ Some files →
    HasRoom files model wrote limit → (of : OfModel before.held other Is) → wrote + all_lengths (texts_of of.program of.columns (statement_names of.model)) < limit
room_of job before model base other over files wrote limit Is e f at room of =
    room.texts of.model of.opened of.columns of.program (model_of before job model base other over files Is e f at of) of.is_program

stopped_below : (IsPart : List ℕ → List ℕ → Type 0) (job : Option Job) (before now : FolderState) (o n : SinkState) (model base other over : List ℕ) (output : Output) (files : HeldFiles) (wrote limit : ℕ) → AreShort IsPart → IsSound now →
    job ≡ Some (Compile model base) → job ≡ Some (Compile other over) → before.held ≡ Some files → before.wrote ≡ Some wrote → before.faultless_below ≡ Some limit →
    HasRoom files model wrote limit → IsStopped IsPart before now o n other over output → NothingRose before now
stopped_below IsPart job before now o n model base other over output files wrote limit short sound e f at told promise room of =
    let stopped = of.is.1 in
    let within = stops_within IsPart over _ output stopped.change stopped.bytes short stopped.at in
    made_below before now stopped.change stopped.bytes wrote limit sound told promise
    (omega (arith, within, room_of job before model base other over files wrote limit _ e f at room of))
    stopped.makes

-- a run with room below the limit of the folder's promise fails at nothing
pub must_not_fail : (job : Option Job) (before now : FolderState) (o n : SinkState) (ending : Ending) → IsSound now → Ended job before now o n ending → MustNotFail job before now
must_not_fail job before now o n _ sound (usage none same still) model base files wrote limit is at told promise room = absurd (no_job job model base none is)
must_not_fail job before now o n _ sound (refused other over fault opened printed f place own why may takes held) model base files wrote limit is at told promise room = kept_below before now wrote limit sound told promise room.before held
must_not_fail job before now o n _ sound (unread other over name printed f why takes held) model base files wrote limit is at told promise room = kept_below before now wrote limit sound told promise room.before held
must_not_fail job before now o n _ sound (unput other over printed f why stops held) model base files wrote limit is at told promise room = kept_below before now wrote limit sound told promise room.before held
must_not_fail job before now o n _ sound (unwritten other over output f rose stopped) model base files wrote limit is at told promise room =
    stopped_below IsFrontOf job before now o n model base other over output files wrote limit fronts_short sound is f at told promise room stopped
must_not_fail job before now o n _ sound (no_memory still held) model base files wrote limit is at told promise room = kept_below before now wrote limit sound told promise room.before held
must_not_fail job before now o n _ sound (no_memory_to_begin other over output f stopped) model base files wrote limit is at told promise room =
    stopped_below IsEmptyFrontOf job before now o n model base other over output files wrote limit empty_short sound is f at told promise room stopped
must_not_fail job before now o n _ sound (done other over f none_begun of) model base files wrote limit is at told promise room =
    made_below before now _ _ wrote limit sound told promise
    (room_of job before model base other over files wrote limit _ is f at room of)
    of.is.1
