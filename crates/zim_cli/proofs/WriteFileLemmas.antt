-- A file that is begun, put to and ended holds what was put, and a stop on the way leaves a first part of it.
use Rattle.std.proofs.Common.{◌≡◌, ℕ, ◌≤◌, List, [], Option, None, Some, option_map, Result, Ok, Err, inl, inr, refl, subst, true, false, is_err, IsErrOf, ◌∙◌, ap, arith}
use Rattle.std.specs.Prelude.{⊤, ◌⊎◌, length}
use Rattle.std.specs.FinMap as map
use Rattle.std.proofs.lemmas.List.{append-nil}
use Rattle.zim_gate.proofs.AppendingLaws.{get_inserted, insert_again}
use Rattle.zim_gate.specs.Counts.{Rose, count_on, IsFrontOf}
use Rattle.zim_gate.specs.Folder.{FolderState, HeldFiles, Begins, Appends, StopsIn, Puts, Ends, put_to, appended_to, emptied}
use Rattle.zim_gate.specs.declared.stops.BeginStop.{BeginStop}
use Rattle.zim_gate.specs.declared.stops.BeginStop.TheVariants as stop
use Rattle.zim_gate.specs.declared.stops.Failed.{Failed}
use Rattle.zim_cli.specs.WriteFile.{KeepsFiles, HoldsOnly, IsPartOf, WritesFile}

-- to put bytes to a file that was just begun is to make it hold them
put_to-emptied : (name bytes : List ℕ) (files : HeldFiles) → put_to (Some name) bytes (emptied name files) ≡ map.insert files name bytes
put_to-emptied name bytes files =
    ap (appended_to name bytes (emptied name files)) (get_inserted files name [])
    ∙ insert_again files name [] bytes

held-put : (name bytes : List ℕ) (held : Option HeldFiles) →
    option_map (put_to (Some name) bytes) (option_map (emptied name) held) ≡ option_map (λ (files : HeldFiles). map.insert files name bytes) held
held-put name bytes None = refl
held-put name bytes (Some files) = ap Some (put_to-emptied name bytes files)

-- what was put since a file was begun is what it holds
holds-put : (before begun now : FolderState) (name bytes : List ℕ) → Begins before begun name (Ok tt) → Appends begun now bytes → HoldsOnly before now name bytes
holds-put before begun now name bytes begins appends = record {
  held =
      appends.held
      ∙ ap (λ (b : Option (List ℕ)). option_map (put_to b bytes) begun.held) begins.ok_begun
      ∙ ap (λ (held : Option HeldFiles). option_map (put_to (Some name) bytes) held) begins.ok
      ∙ held-put name bytes before.held;
  wrote = appends.wrote ∙ ap (option_map (count_on (length bytes))) begins.wrote;
  faultless_below = appends.faultless_below ∙ begins.faultless_below;
}

-- what an end leaves is what was there
holds-end : (before put now : FolderState) (name bytes : List ℕ) (e : Result ⊤ Failed) → HoldsOnly before put name bytes → Ends put now e → HoldsOnly before now name bytes
holds-end before put now name bytes e holds ends = record { held = ends.held ∙ holds.held; wrote = ends.wrote ∙ holds.wrote; faultless_below = ends.faultless_below ∙ holds.faultless_below }

-- no bytes leave a count as it is
counts-nothing : (wrote : Option ℕ) → wrote ≡ option_map (count_on 0) wrote
counts-nothing None = refl
counts-nothing (Some n) = let same : n ≡ count_on 0 n = omega arith in ap Some same

-- a file that was made to hold nothing
holds-nothing : (before now : FolderState) (name : List ℕ) → now.held ≡ option_map (emptied name) before.held → now.wrote ≡ before.wrote → now.faultless_below ≡ before.faultless_below → HoldsOnly before now name []
holds-nothing before now name held wrote promise = record { held = held; wrote = wrote ∙ counts-nothing before.wrote; faultless_below = promise }

no_bytes-front : (text : List ℕ) → IsFrontOf [] text
no_bytes-front text = record { rest = text; whole = refl }

begun_or_kept : (before now : FolderState) (name : List ℕ) → now.wrote ≡ before.wrote → now.faultless_below ≡ before.faultless_below → (now.held ≡ before.held) ⊎ (now.held ≡ option_map (emptied name) before.held) →
    KeepsFiles before now ⊎ HoldsOnly before now name []
begun_or_kept before now name wrote promise (inl kept) = inl (record { held = kept; wrote = wrote; faultless_below = promise })
begun_or_kept before now name wrote promise (inr emptied_now) = inr (holds-nothing before now name emptied_now wrote promise)

stopped_at_once : (before now : FolderState) (name text : List ℕ) → KeepsFiles before now ⊎ HoldsOnly before now name [] → IsPartOf before now name text
stopped_at_once before now name text (inl kept) = inl kept
stopped_at_once before now name text (inr holds) = inr ([], no_bytes-front text, holds)

begin_stopped : (before now : FolderState) (name text : List ℕ) (s : BeginStop) → Begins before now name (Err s) → WritesFile before now name text (Err s)
begin_stopped before now name text s begins =
    let left : KeepsFiles before now ⊎ HoldsOnly before now name [] = begun_or_kept before now name begins.wrote begins.faultless_below begins.err in
    record { ok = tt; ended = tt; err = stopped_at_once before now name text left; failed = begins.failed; refused = λ _. left; write_faults = begins.write_faults }

-- the begin was refused
pub begin_failed : (before now : FolderState) (name text : List ℕ) (b : Result ⊤ BeginStop) (s : BeginStop) → b ≡ Err s → Begins before now name b → WritesFile before now name text (Err s)
begin_failed before now name text b s is begins =
    begin_stopped before now name text s (subst (λ (r : Result ⊤ BeginStop). Begins before now name r) is begins)

-- a text is a front of itself
whole-front : (text : List ℕ) → IsFrontOf text text
whole-front text = record { rest = []; whole = append-nil text }

-- a count that rose has risen from each earlier value
Rose-from : (a b c : ℕ) → a ≤ b → Rose b c → Rose a c
Rose-from a b c h r = elim r [ inl lt ↦ inl (omega arith) | inr last ↦ inr last ]

-- a result that is well is no error
well-no_err : {A E : Type 0} (a : A) (e : E) → IsErrOf (Ok a) e → ⊥
well-no_err a e h = cc

-- a failure is no want of memory
failed-no_memory : IsErrOf {T = ⊤} (Err stop.Failed) stop.Memory → ⊥
failed-no_memory h = cc

put_stopped : (before begun now : FolderState) (name text : List ℕ) → Begins before begun name (Ok tt) → StopsIn begun now text →
    WritesFile before now name text (Err stop.Failed)
put_stopped before begun now name text begins stops = record {
  ok = tt;
  ended = tt;
  err = inr (stops.bytes, stops.front, holds-put before begun now name stops.bytes begins stops.appends);
  failed = λ _. Rose-from before.write_faults begun.write_faults now.write_faults begins.write_faults stops.rose;
  refused = λ h. absurd (failed-no_memory h);
  write_faults = omega (arith, begins.write_faults, stops.appends.write_faults);
}

-- a put failed after the file was begun
pub put_failed : (before begun now : FolderState) (name text : List ℕ) (b : Result ⊤ BeginStop) (p : Result ⊤ Failed) → b ≡ Ok tt → is_err p ≡ true →
    Begins before begun name b → Puts begun now text p → WritesFile before now name text (Err stop.Failed)
put_failed before begun now name text b (Ok _) well bad begins puts = absurd (cc)
put_failed before begun now name text b (Err _) well bad begins puts =
    put_stopped before begun now name text (subst (λ (r : Result ⊤ BeginStop). Begins before begun name r) well begins) puts.err

appended : (begun now : FolderState) (text : List ℕ) (p : Result ⊤ Failed) → is_err p ≡ false → Puts begun now text p → Appends begun now text
appended begun now text (Ok _) good puts = puts.ok
appended begun now text (Err _) good puts = absurd (cc)

end_stopped : (before begun put now : FolderState) (name text : List ℕ) (f : Failed) → Begins before begun name (Ok tt) → Appends begun put text →
    Ends put now (Err f) → WritesFile before now name text (Err stop.Failed)
end_stopped before begun put now name text f begins appends ends = record {
  ok = tt;
  ended = tt;
  err = inr (text, whole-front text, holds-end before put now name text (Err f) (holds-put before begun put name text begins appends) ends);
  failed = λ _.
      Rose-from before.write_faults put.write_faults now.write_faults
      (omega (arith, begins.write_faults, appends.write_faults))
      ends.failed;
  refused = λ h. absurd (failed-no_memory h);
  write_faults = omega (arith, begins.write_faults, appends.write_faults, ends.write_faults);
}

-- the file was put whole, and its end failed
pub end_failed : (before begun put now : FolderState) (name text : List ℕ) (b : Result ⊤ BeginStop) (p e : Result ⊤ Failed) (f : Failed) → b ≡ Ok tt → is_err p ≡ false → e ≡ Err f →
    Begins before begun name b → Puts begun put text p → Ends put now e → WritesFile before now name text (Err stop.Failed)
end_failed before begun put now name text b p e f well good bad begins puts ends =
    end_stopped before begun put now name text f
    (subst (λ (r : Result ⊤ BeginStop). Begins before begun name r) well begins)
    (appended begun put text p good puts)
    (subst (λ (r : Result ⊤ Failed). Ends put now r) bad ends)

ended_well : (before begun put now : FolderState) (name text : List ℕ) (e : Result ⊤ Failed) → Begins before begun name (Ok tt) → Appends begun put text →
    Ends put now e → WritesFile before now name text (Ok tt)
ended_well before begun put now name text e begins appends ends = record {
  ok = holds-end before put now name text e (holds-put before begun put name text begins appends) ends;
  ended = ends.begun;
  err = tt;
  failed = λ h. absurd (well-no_err tt stop.Failed h);
  refused = λ h. absurd (well-no_err tt stop.Memory h);
  write_faults = omega (arith, begins.write_faults, appends.write_faults, ends.write_faults);
}

-- the file was put whole and ended
pub file_written : (before begun put now : FolderState) (name text : List ℕ) (b : Result ⊤ BeginStop) (p e : Result ⊤ Failed) → b ≡ Ok tt → is_err p ≡ false →
    Begins before begun name b → Puts begun put text p → Ends put now e → WritesFile before now name text (Ok tt)
file_written before begun put now name text b p e well good begins puts ends =
    ended_well before begun put now name text e
    (subst (λ (r : Result ⊤ BeginStop). Begins before begun name r) well begins)
    (appended begun put text p good puts)
    ends

-- a file was begun and ended, with nothing put to it
pub file_cleared : (before begun now : FolderState) (name : List ℕ) (b : Result ⊤ BeginStop) (e : Result ⊤ Failed) → b ≡ Ok tt → Begins before begun name b → Ends begun now e → WritesFile before now name [] (Ok tt)
file_cleared before begun now name b e well begins ends =
    let at : Begins before begun name (Ok tt) = subst (λ (r : Result ⊤ BeginStop). Begins before begun name r) well begins in
    record {
      ok = holds-end before begun now name [] e (holds-nothing before begun name at.ok at.wrote at.faultless_below) ends;
      ended = ends.begun;
      err = tt;
      failed = λ h. absurd (well-no_err tt stop.Failed h);
      refused = λ h. absurd (well-no_err tt stop.Memory h);
      write_faults = omega (arith, begins.write_faults, ends.write_faults);
    }

-- its end failed
pub clear_failed : (before begun now : FolderState) (name : List ℕ) (b : Result ⊤ BeginStop) (e : Result ⊤ Failed) (f : Failed) → b ≡ Ok tt → e ≡ Err f → Begins before begun name b → Ends begun now e → WritesFile before now name [] (Err stop.Failed)
clear_failed before begun now name b e f well bad begins ends =
    let at : Begins before begun name (Ok tt) = subst (λ (r : Result ⊤ BeginStop). Begins before begun name r) well begins in
    let rose : Rose begun.write_faults now.write_faults = (subst (λ (r : Result ⊤ Failed). Ends begun now r) bad ends).failed in
    record {
      ok = tt;
      ended = tt;
      err = inr ([], whole-front [], holds-end before begun now name [] e (holds-nothing before begun name at.ok at.wrote at.faultless_below) ends);
      failed = λ _. Rose-from before.write_faults begun.write_faults now.write_faults begins.write_faults rose;
      refused = λ h. absurd (failed-no_memory h);
      write_faults = omega (arith, begins.write_faults, ends.write_faults);
    }
