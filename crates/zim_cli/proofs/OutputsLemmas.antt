-- The files after each step of writing the outputs.
use Rattle.std.proofs.Common.{zero-add, sym, ◌≡◌, ℕ, ◌≤◌, List, [], ◌∷◌, Option, None, Some, option_map, Result, Ok, Err, inl, inr, refl, ◌∙◌, ap, subst, arith}
use Rattle.std.specs.Prelude.{⊤, ◌⊎◌, ◌+◌, length}
use Rattle.std.specs.FinMap as map
use Rattle.zim_gate.specs.Counts.{Rose, count_on, IsFrontOf}
use Rattle.zim_gate.specs.Folder.{FolderState, HeldFiles}
use Rattle.zim_gate.specs.declared.stops.BeginStop.{BeginStop}
use Rattle.zim_gate.specs.declared.stops.BeginStop.TheVariants as stop
use Rattle.zim_cli.specs.declared.outputs.Output.{Output}
use Rattle.zim_cli.specs.declared.outputs.Output.TheVariants.{Lp, Mps, Table}
use Rattle.zim_cli.specs.Outputs.{both_lengths, output_name, Texts, without_table, with_lp, with_mps, StopsAt, untouched, emptied, lp_kept, lp_part, mps_kept, mps_part, table_kept, table_part, Makes, IsEmptyFrontOf, IsStoppedAt, stop_at_output, WritesAll}
use Rattle.zim_cli.specs.WriteFile.{KeepsFiles, HoldsOnly, IsPartOf, WritesFile}

held_then : (held : Option HeldFiles) (f g : HeldFiles → HeldFiles) → option_map g (option_map f held) ≡ option_map (λ (files : HeldFiles). g (f files)) held
held_then None f g = refl
held_then (Some files) f g = refl

held_same : (held : Option HeldFiles) → held ≡ option_map (λ (files : HeldFiles). files) held
held_same None = refl
held_same (Some files) = refl

no_count : (wrote : Option ℕ) → wrote ≡ option_map (count_on 0) wrote
no_count None = refl
no_count (Some n) = let same : n ≡ count_on 0 n = omega arith in ap Some same

count_then : (wrote : Option ℕ) (m n : ℕ) → option_map (count_on n) (option_map (count_on m) wrote) ≡ option_map (count_on (m + n)) wrote
count_then None m n = refl
count_then (Some c) m n = let same : count_on n (count_on m c) ≡ count_on (m + n) c = omega arith in ap Some same

-- a file more holds its bytes
then_holds : (before between now : FolderState) (change : HeldFiles → HeldFiles) (n : ℕ) (name bytes : List ℕ) → Makes before between change n → HoldsOnly between now name bytes → Makes before now (λ files. map.insert (change files) name bytes) (n + length bytes)
then_holds before between now change n name bytes makes holds = record {
  held =
      holds.held
      ∙ ap (λ (held : Option HeldFiles). option_map (λ (files : HeldFiles). map.insert files name bytes) held) makes.held
      ∙ held_then before.held change (λ files. map.insert files name bytes);
  wrote = holds.wrote ∙ ap (option_map (count_on (length bytes))) makes.wrote ∙ count_then before.wrote n (length bytes);
  faultless_below = holds.faultless_below ∙ makes.faultless_below;
}

-- a step that changed nothing
then_keeps : (before between now : FolderState) (change : HeldFiles → HeldFiles) (n : ℕ) → Makes before between change n → KeepsFiles between now → Makes before now change n
then_keeps before between now change n makes keeps = record { held = keeps.held ∙ makes.held; wrote = keeps.wrote ∙ makes.wrote; faultless_below = keeps.faultless_below ∙ makes.faultless_below }

-- what the files may be made where this step stops
record Stage (IsPart : List ℕ → List ℕ → Type 0) (base : List ℕ) (texts : Texts) (output : Output) (change : HeldFiles → HeldFiles) (n : ℕ) (name text : List ℕ) : Type 0 where
  kept : StopsAt IsPart base texts output change n
  part : (front : List ℕ) → IsPart front text → StopsAt IsPart base texts output (λ files. map.insert (change files) name front) (n + length front)

-- a step that stopped: the files are as before it, or with a part of its text
stopped_in : (IsPart : List ℕ → List ℕ → Type 0) (before between now : FolderState) (base : List ℕ) (texts : Texts) (output : Output) (change : HeldFiles → HeldFiles) (n : ℕ) (name text : List ℕ) → Makes before between change n → Stage IsPart base texts output change n name text → KeepsFiles between now ⊎ ((front : List ℕ) × IsPart front text × HoldsOnly between now name front) → IsStoppedAt IsPart before now base texts output
stopped_in IsPart before between now base texts output change n name text makes stage (inl same) = record { change = change; bytes = n; at = stage.kept; makes = then_keeps before between now change n makes same }
stopped_in IsPart before between now base texts output change n name text makes stage (inr (front, is, holds)) =
    record { change = _; bytes = n + length front; at = stage.part front is; makes = then_holds before between now change n name front makes holds }

nothing_of : (between now : FolderState) (name text : List ℕ) → KeepsFiles between now ⊎ HoldsOnly between now name [] → KeepsFiles between now ⊎ ((front : List ℕ) × IsEmptyFrontOf front text × HoldsOnly between now name front)
nothing_of between now name text (inl same) = inl same
nothing_of between now name text (inr holds) = inr ([], refl, holds)

Rose-from : (a b c : ℕ) → a ≤ b → Rose b c → Rose a c
Rose-from a b c h r = elim r [ inl lt ↦ inl (omega arith) | inr last ↦ inr last ]

-- what is so after some steps
pub record SoFar (before now : FolderState) (change : HeldFiles → HeldFiles) (n : ℕ) : Type 0 where
  pub makes : Makes before now change n
  pub low : before.write_faults ≤ now.write_faults

-- a fault of writing was counted since an earlier step
unwritten_all : (before between now : FolderState) (base : List ℕ) (texts : Texts) (output : Output) (name text : List ℕ) → before.write_faults ≤ between.write_faults → WritesFile between now name text (Err stop.Failed) → IsStoppedAt IsFrontOf before now base texts output → WritesAll before now base texts (Err (stop_at_output output stop.Failed))
unwritten_all before between now base texts output name text low writes stopped = (stopped, Rose-from before.write_faults between.write_faults now.write_faults low (writes.failed refl))

all_stopped : (before between now : FolderState) (base : List ℕ) (texts : Texts) (output : Output) (change : HeldFiles → HeldFiles) (n : ℕ) (name text : List ℕ) (s : BeginStop) → SoFar before between change n → ((IsPart : List ℕ → List ℕ → Type 0) → Stage IsPart base texts output change n name text) → WritesFile between now name text (Err s) → WritesAll before now base texts (Err (stop_at_output output s))
all_stopped before between now base texts output change n name text stop.Failed far stage writes =
    unwritten_all before between now base texts output name text far.low writes
    (stopped_in IsFrontOf before between now base texts output change n name text far.makes (stage IsFrontOf) writes.err)
all_stopped before between now base texts output change n name text stop.Memory far stage writes =
    (output, stopped_in IsEmptyFrontOf before between now base texts output change n name text far.makes (stage IsEmptyFrontOf) (nothing_of between now name text (writes.refused refl)))

nothing_made : (state : FolderState) → Makes state state (λ files. files) 0
nothing_made state = record { held = held_same state.held; wrote = no_count state.wrote; faultless_below = refl }

so_far_none : (state : FolderState) → SoFar state state (λ files. files) 0
so_far_none state = record { makes = nothing_made state; low = omega arith }

more : (before between now : FolderState) (change : HeldFiles → HeldFiles) (n : ℕ) (name text : List ℕ) → SoFar before between change n → WritesFile between now name text (Ok tt) → SoFar before now (λ files. map.insert (change files) name text) (n + length text)
more before between now change n name text far writes = record {
  makes = then_holds before between now change n name text far.makes writes.ok;
  low = omega (arith, far.low, writes.write_faults);
}

-- each step and its stop

written : (before now : FolderState) (name other text : List ℕ) (r s : Result ⊤ BeginStop) → name ≡ other → r ≡ s → WritesFile before now name text r → WritesFile before now other text s
written before now name other text r s e f writes =
    subst (λ (n : List ℕ). WritesFile before now n text s) e (subst (λ (x : Result ⊤ BeginStop). WritesFile before now name text x) f writes)

pub table_cleared : (before now : FolderState) (base name : List ℕ) (r : Result ⊤ BeginStop) → name ≡ output_name base Table → r ≡ Ok tt → WritesFile before now name [] r → SoFar before now (without_table base) 0
table_cleared before now base name r e is writes =
    more before before now (λ files. files) 0 (output_name base Table) [] (so_far_none before) (written before now name (output_name base Table) [] r (Ok tt) e is writes)

pub clear_stopped : (before now : FolderState) (base name : List ℕ) (texts : Texts) (r : Result ⊤ BeginStop) (s : BeginStop) → name ≡ output_name base Table → r ≡ Err s → WritesFile before now name [] r → WritesAll before now base texts (Err (stop_at_output Table s))
clear_stopped before now base name texts r s e is writes =
    let at : WritesFile before now (output_name base Table) [] (Err s) = written before now name (output_name base Table) [] r (Err s) e is writes in
    by_stop s at
  where
    cleared : (IsPart : List ℕ → List ℕ → Type 0) → KeepsFiles before now ⊎ HoldsOnly before now (output_name base Table) [] → IsStoppedAt IsPart before now base texts Table
    cleared IsPart (inl same) = record { change = λ files. files; bytes = 0; at = untouched; makes = then_keeps before before now (λ files. files) 0 (nothing_made before) same }
    cleared IsPart (inr holds) = record { change = without_table base; bytes = 0; at = emptied; makes = record { held = holds.held; wrote = holds.wrote; faultless_below = holds.faultless_below } }

    no_part : IsPartOf before now (output_name base Table) [] → KeepsFiles before now ⊎ HoldsOnly before now (output_name base Table) []
    no_part (inl same) = inl same
    no_part (inr ([], is, holds)) = inr holds
    no_part (inr (b ∷ front, is, holds)) = absurd (let no = is.whole in cc)

    by_stop : (s : BeginStop) → WritesFile before now (output_name base Table) [] (Err s) → WritesAll before now base texts (Err (stop_at_output Table s))
    by_stop stop.Failed at = unwritten_all before before now base texts Table (output_name base Table) [] (omega arith) at (cleared IsFrontOf (no_part at.err))
    by_stop stop.Memory at = (Table, cleared IsEmptyFrontOf (at.refused refl))

pub lp_written : (before between now : FolderState) (base name : List ℕ) (texts : Texts) (r : Result ⊤ BeginStop) → name ≡ output_name base Lp → r ≡ Ok tt → SoFar before between (without_table base) 0 → WritesFile between now name texts.lp r → SoFar before now (with_lp base texts.lp) (length texts.lp)
lp_written before between now base name texts r e is far writes =
    subst (SoFar before now (with_lp base texts.lp)) (zero-add (length texts.lp)) (more before between now (without_table base) 0 (output_name base Lp) texts.lp far (written between now name (output_name base Lp) texts.lp r (Ok tt) e is writes))

pub lp_stopped : (before between now : FolderState) (base name : List ℕ) (texts : Texts) (r : Result ⊤ BeginStop) (s : BeginStop) → name ≡ output_name base Lp → r ≡ Err s → SoFar before between (without_table base) 0 → WritesFile between now name texts.lp r → WritesAll before now base texts (Err (stop_at_output Lp s))
lp_stopped before between now base name texts r s e is far writes =
    let at : WritesFile between now (output_name base Lp) texts.lp (Err s) = written between now name (output_name base Lp) texts.lp r (Err s) e is writes in
    all_stopped before between now base texts Lp (without_table base) 0 (output_name base Lp) texts.lp s far
    (λ IsPart. record { kept = lp_kept; part = λ front is. subst (StopsAt IsPart base texts Lp (with_lp base front)) (sym (zero-add (length front))) (lp_part front is) })
    at

pub mps_written : (before between now : FolderState) (base name : List ℕ) (texts : Texts) (r : Result ⊤ BeginStop) → name ≡ output_name base Mps → r ≡ Ok tt → SoFar before between (with_lp base texts.lp) (length texts.lp) → WritesFile between now name texts.mps r → SoFar before now (with_mps base texts texts.mps) (both_lengths texts)
mps_written before between now base name texts r e is far writes =
    more before between now (with_lp base texts.lp) (length texts.lp) (output_name base Mps) texts.mps far (written between now name (output_name base Mps) texts.mps r (Ok tt) e is writes)

pub mps_stopped : (before between now : FolderState) (base name : List ℕ) (texts : Texts) (r : Result ⊤ BeginStop) (s : BeginStop) → name ≡ output_name base Mps → r ≡ Err s → SoFar before between (with_lp base texts.lp) (length texts.lp) → WritesFile between now name texts.mps r → WritesAll before now base texts (Err (stop_at_output Mps s))
mps_stopped before between now base name texts r s e is far writes =
    let at : WritesFile between now (output_name base Mps) texts.mps (Err s) = written between now name (output_name base Mps) texts.mps r (Err s) e is writes in
    all_stopped before between now base texts Mps (with_lp base texts.lp) (length texts.lp) (output_name base Mps) texts.mps s far
    (λ IsPart. record { kept = mps_kept; part = λ front is. mps_part front is })
    at

pub table_written : (before between now : FolderState) (base name : List ℕ) (texts : Texts) (r : Result ⊤ BeginStop) → name ≡ output_name base Table → r ≡ Ok tt → SoFar before between (with_mps base texts texts.mps) (both_lengths texts) → WritesFile between now name texts.table r → WritesAll before now base texts (Ok tt)
table_written before between now base name texts r e is far writes =
    let at : WritesFile between now (output_name base Table) texts.table (Ok tt) = written between now name (output_name base Table) texts.table r (Ok tt) e is writes in
    ((more before between now (with_mps base texts texts.mps) (both_lengths texts) (output_name base Table) texts.table far at).makes, at.ended)

pub table_stopped : (before between now : FolderState) (base name : List ℕ) (texts : Texts) (r : Result ⊤ BeginStop) (s : BeginStop) → name ≡ output_name base Table → r ≡ Err s → SoFar before between (with_mps base texts texts.mps) (both_lengths texts) → WritesFile between now name texts.table r → WritesAll before now base texts (Err (stop_at_output Table s))
table_stopped before between now base name texts r s e is far writes =
    let at : WritesFile between now (output_name base Table) texts.table (Err s) = written between now name (output_name base Table) texts.table r (Err s) e is writes in
    all_stopped before between now base texts Table (with_mps base texts texts.mps) (both_lengths texts) (output_name base Table) texts.table s far
    (λ IsPart. record { kept = table_kept; part = λ front is. table_part front is })
    at
