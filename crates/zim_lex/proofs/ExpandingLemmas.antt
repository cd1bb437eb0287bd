-- One step of an expansion, in the terms of its contracts.
use Rattle.std.proofs.Common.{◌≡◌, ℕ, suc, ◌+◌, ◌<◌, List, [], ◌∷◌, ◌++◌, length, map, Option, Some, None, Result, Ok, Err, inl, inr, refl, ap, sym, ◌∙◌, subst, arith, length-append}
use Rattle.std.specs.Prelude.{IfSome, IfNone, OnOk, ⊤}
use Rattle.std.specs.FinMap as finite
use Rattle.zim_answer.specs.Answer.{goes}
use Rattle.zim_answer.proofs.GoesLemmas.{goes-nil}
use Rattle.zim_fault.specs.declared.kinds.Kind.TheVariants.{IncludeDeep, LongFile}
use Rattle.zim_gate.specs.Counts.{Rose}
use Rattle.zim_gate.specs.Folder.{HeldFiles, FolderState, OnlyRead}
use Rattle.zim_lex.specs.declared.expanding.Expansion.{Expansion}
use Rattle.zim_lex.specs.declared.expanding.Stop.{Stop}
use Rattle.zim_lex.specs.declared.expanding.Stop.TheVariants.{Fault, Read, Memory}
use Rattle.zim_lex.specs.declared.lines.Line.{Line}
use Rattle.zim_lex.specs.Includes.{included}
use Rattle.zim_lex.specs.Expanded.{At, taken_as, taken, opened, includes}
use Rattle.zim_lex.specs.Expanding.{Grows, IsOpenedAs, OpensFile, IsExpanded, IfKnown, IfUnread, IfStopped, IsLoadingFault, Expands}
use Rattle.zim_lex.specs.Opened.{ComeFirst}
use Rattle.zim_lex.specs.Unread.{MayBeUnread}
use Rattle.zim_lex.proofs.ExpandedLemmas.{begins-refl, begins-more, includes_keep, unread_here, stops_at, goes_on, moved, file_taken, file_long}
use Rattle.zim_lex.proofs.GrowsLemmas.{Growing, growing_done, grows_include}
use Rattle.zim_lex.proofs.IncludeLemmas.{include_has_bytes}
use Rattle.zim_lex.proofs.ReadingLemmas.{OnlyRead-refl, rose_later}

-- what begins the opened files
pub begins-same : (front names : List (List ℕ)) → names ≡ front → ComeFirst front names
begins-same front names same = subst (ComeFirst front) (sym same) (begins-refl front)

pub known_from : (A B : Type 0) (s : Stop) (P Q : Type 0) → (P → Q) → IfKnown {A = A} (Err s) P → IfKnown {A = B} (Err s) Q
known_from A B (Fault fault) P Q follows h = follows h
known_from A B (Read name) P Q follows h = tt
known_from A B Memory P Q follows h = tt

pub opens_first : (front more all : List (List ℕ)) (r : Result ⊤ Stop) → IfKnown r (ComeFirst (front ++ more) all) → IfKnown r (ComeFirst front all)
opens_first front more all (Ok done) h = begins-more front more all h
opens_first front more all (Err s) h = known_from ⊤ ⊤ s (ComeFirst (front ++ more) all) (ComeFirst front all) (begins-more front more all) h

-- what reads and then reads only reads
pub only_both : (a b c : FolderState) → OnlyRead a b → OnlyRead b c → OnlyRead a c
only_both a b c one two = record {
  held = two.held ∙ one.held;
  wrote = two.wrote ∙ one.wrote;
  read_faults = omega (arith, one.read_faults, two.read_faults);
  write_faults = two.write_faults ∙ one.write_faults;
  faultless_below = two.faultless_below ∙ one.faultless_below;
}

no_untold : (held : Option HeldFiles) → IfNone held (Unit {0})
no_untold None = tt
no_untold (Some files) = tt

each_told : (P : HeldFiles → Type 0) (held : Option HeldFiles) → ((files : HeldFiles) → P files) → IfSome held P
each_told P None each = tt
each_told P (Some files) each = each files

deep_is : (held : HeldFiles) (old : Expansion) (line : Line) (name : List ℕ) (left : ℕ) → included line.bytes ≡ Some name → left ≡ 0 → taken (includes left held) old line ≡ Err (At (record { place = line.place; kind = IncludeDeep }) old.files)
unfolding includes
deep_is held old line name left is none = ap (taken_as (includes left held) old line) is ∙ ap (λ (k : ℕ). includes k held old line name) none

-- an include line at the last depth
pub too_deep : (state : FolderState) (old : Expansion) (line : Line) (name : List ℕ) (left n : ℕ) → included line.bytes ≡ Some name → left ≡ 0 → line.place.file < length old.files
    → Expands state state (λ files. taken (includes left files) old line) old old n n (Err (Fault (record { place = line.place; kind = IncludeDeep })))
too_deep state old line name left n is none place = record {
  only = OnlyRead-refl state;
  told = each_told (λ held. taken (includes left held) old line ≡ Err (At (record { place = line.place; kind = IncludeDeep }) old.files)) state.held (λ held. deep_is held old line name left is none);
  untold = no_untold state.held;
  grows = tt;
  fault = record { kind = inr refl; place = place };
}

include_is : (held : HeldFiles) (old : Expansion) (line : Line) (name : List ℕ) (left less : ℕ) → included line.bytes ≡ Some name → left ≡ suc less → opened held (includes less held) old name ≡ taken (includes left held) old line
unfolding includes
include_is held old line name left less is more = sym (ap (taken_as (includes left held) old line) is ∙ ap (λ (k : ℕ). includes k held old line name) more)

-- one at another depth
pub includes_file : (before now : FolderState) (old new : Expansion) (line : Line) (name : List ℕ) (left less : ℕ) (result : Result ⊤ Stop) → included line.bytes ≡ Some name → left ≡ suc less
    → Expands before now (λ files. opened files (includes less files) old name) old new 1 0 result → Expands before now (λ files. taken (includes left files) old line) old new (length line.bytes) (length line.bytes) result
includes_file before now old new line name left less result is more expands = record {
  only = expands.only;
  told = told before.held expands.told;
  untold = expands.untold;
  grows = grows result expands.grows;
  fault = expands.fault;
}
  where
    told : (held : Option HeldFiles) → IfSome held (λ files. IsExpanded (opened files (includes less files) old name) (Rose before.read_faults now.read_faults) new result)
        → IfSome held (λ files. IsExpanded (taken (includes left files) old line) (Rose before.read_faults now.read_faults) new result)
    told None h = tt
    told (Some files) h = subst (λ a. IsExpanded a (Rose before.read_faults now.read_faults) new result) (include_is files old line name left less is more) h

    grows : (r : Result ⊤ Stop) → OnOk r (Grows old new 1 0) → OnOk r (Grows old new (length line.bytes) (length line.bytes))
    grows (Ok done) g = grows_include old new (length line.bytes) (include_has_bytes line.bytes name is) g
    grows (Err stop) g = tt

-- the file was counted, where the stop is a fault
abbrev OpensKnown : Expansion → Expansion → List ℕ → Stop → Type 0
OpensKnown old new name (Fault fault) = new.files ≡ old.files ++ name ∷ []
OpensKnown old new name (Read unread) = Unit {0}
OpensKnown old new name Memory = Unit {0}

opened_as : (files : HeldFiles) (rose : Type 0) (old new : Expansion) (name : List ℕ) (left : ℕ) (s : Stop) → OpensKnown old new name s → IsOpenedAs (finite.get files name) rose old new name (Err s)
    → IsExpanded (opened files (includes left files) old name) rose new (Err s)
opened_as files rose old new name left (Fault fault) known (text, holds, long) = file_long files (includes left files) old new name text fault holds long known
opened_as files rose old new name left (Read unread) known (same, why) =
    subst (λ (n : List ℕ). MayBeUnread (λ all. all.files) rose (opened files (includes left files) old name) n) (sym same) (unread_here files (includes left files) rose (includes_keep left files) old name why)
opened_as files rose old new name left Memory known h = tt

fault_of : (old new : Expansion) (name : List ℕ) (s : Stop) → OpensKnown old new name s → IfStopped {A = List Line} (Err s) (λ fault. (fault.kind ≡ LongFile) × (fault.place.file ≡ length old.files)) → IfStopped {A = ⊤} (Err s) (λ fault. IsLoadingFault fault (length new.files))
fault_of old new name (Fault fault) known (kind, place) =
    let count : length new.files ≡ length old.files + 1 = ap length known ∙ length-append old.files (name ∷ []) in
    record { kind = inl kind; place = omega (arith, place, count) }
fault_of old new name (Read unread) known h = tt
fault_of old new name Memory known h = tt

untold_of : (held : Option HeldFiles) (s : Stop) (rose : Type 0) → IfNone held (IfUnread {A = List Line} (Err s) rose) → IfNone held (IfUnread {A = ⊤} (Err s) rose)
untold_of (Some files) s rose h = tt
untold_of None (Fault fault) rose h = tt
untold_of None (Read unread) rose h = h
untold_of None Memory rose h = tt

-- a file that wasn't opened and read
pub file_stops : (before now : FolderState) (old new : Expansion) (name : List ℕ) (left : ℕ) (s : Stop) → OpensFile before now old new name (Err s) → Expands before now (λ files. opened files (includes left files) old name) old new 1 0 (Err s)
file_stops before now old new name left s opens = record {
  only = opens.only;
  told = told before.held opens.told;
  untold = untold_of before.held s (Rose before.read_faults now.read_faults) opens.untold;
  grows = tt;
  fault = fault_of old new name s (known s opens.files) opens.fault;
}
  where
    known : (stop : Stop) → IfKnown {A = List Line} (Err stop) (new.files ≡ old.files ++ name ∷ []) → OpensKnown old new name stop
    known (Fault fault) h = h
    known (Read unread) h = tt
    known Memory h = tt

    told : (held : Option HeldFiles) → IfSome held (λ files. IsOpenedAs (finite.get files name) (Rose before.read_faults now.read_faults) old new name (Err s))
        → IfSome held (λ files. IsExpanded (opened files (includes left files) old name) (Rose before.read_faults now.read_faults) new (Err s))
    told None h = tt
    told (Some files) h = opened_as files (Rose before.read_faults now.read_faults) old new name left s (known s opens.files) h

-- a file's lines before the first is taken
pub file_begins : (before : FolderState) (now : FolderState) (old new : Expansion) (name : List ℕ) (left file : ℕ) (lines : List Line) → OpensFile before now old new name (Ok lines) → file ≡ length old.files
    → IfSome before.held (λ held. goes (taken (includes left held)) new (map (moved file) lines) ≡ opened held (includes left held) old name)
file_begins before now old new name left file lines opens is = at before.held opens.told where
  at : (held : Option HeldFiles) → IfSome held (λ files. IsOpenedAs (finite.get files name) (Rose before.read_faults now.read_faults) old new name (Ok lines))
      → IfSome held (λ files. goes (taken (includes left files)) new (map (moved file) lines) ≡ opened files (includes left files) old name)
  at None h = tt
  at (Some files) (text, holds, is_taken) =
      ap (λ (n : ℕ). goes (taken (includes left files)) new (map (moved n) lines)) is ∙ file_taken files (includes left files) old new name text lines holds is_taken opens.lines opens.files

-- one of its lines is taken
pub file_goes_on : (start cur now : FolderState) (old mid new : Expansion) (name : List ℕ) (left n : ℕ) (line : Line) (lines : List Line) (done : ⊤) → OnlyRead start cur
    → IfSome start.held (λ held. goes (taken (includes left held)) mid (line ∷ lines) ≡ opened held (includes left held) old name) → Expands cur now (λ files. taken (includes left files) mid line) mid new n n (Ok done)
    → IfSome start.held (λ held. goes (taken (includes left held)) new lines ≡ opened held (includes left held) old name)
file_goes_on start cur now old mid new name left n line lines done only so_far expands =
    at start.held so_far (subst (λ (o : Option HeldFiles). IfSome o (λ files. taken (includes left files) mid line ≡ Ok new)) only.held expands.told)
  where
    at : (held : Option HeldFiles) → IfSome held (λ files. goes (taken (includes left files)) mid (line ∷ lines) ≡ opened files (includes left files) old name) → IfSome held (λ files. taken (includes left files) mid line ≡ Ok new)
        → IfSome held (λ files. goes (taken (includes left files)) new lines ≡ opened files (includes left files) old name)
    at None h k = tt
    at (Some files) h k = goes_on (includes left files) mid new line lines (opened files (includes left files) old name) h k

rose_untold : (held : Option HeldFiles) (s : Stop) (one two : Type 0) → (one → two) → IfNone held (IfUnread {A = ⊤} (Err s) one) → IfNone held (IfUnread {A = ⊤} (Err s) two)
rose_untold (Some files) s one two follows h = tt
rose_untold None (Fault fault) one two follows h = tt
rose_untold None (Read unread) one two follows h = follows h
rose_untold None Memory one two follows h = tt

-- one of its lines stops
pub file_stops_at : (start cur now : FolderState) (old mid new : Expansion) (name : List ℕ) (left n : ℕ) (line : Line) (lines : List Line) (s : Stop) → OnlyRead start cur
    → IfSome start.held (λ held. goes (taken (includes left held)) mid (line ∷ lines) ≡ opened held (includes left held) old name) → Expands cur now (λ files. taken (includes left files) mid line) mid new n n (Err s)
    → Expands start now (λ files. opened files (includes left files) old name) old new 1 0 (Err s)
file_stops_at start cur now old mid new name left n line lines s only so_far expands = record {
  only = only_both start cur now only expands.only;
  told = at start.held so_far (subst (λ (o : Option HeldFiles). IfSome o (λ files. IsExpanded (taken (includes left files) mid line) (Rose cur.read_faults now.read_faults) new (Err s))) only.held expands.told);
  untold = subst (λ (o : Option HeldFiles). IfNone o (IfUnread {A = ⊤} (Err s) (Rose start.read_faults now.read_faults))) only.held (rose_untold cur.held s (Rose cur.read_faults now.read_faults) (Rose start.read_faults now.read_faults) (rose_later start.read_faults cur.read_faults now.read_faults only.read_faults) expands.untold);
  grows = tt;
  fault = expands.fault;
}
  where
    at : (held : Option HeldFiles) → IfSome held (λ files. goes (taken (includes left files)) mid (line ∷ lines) ≡ opened files (includes left files) old name)
        → IfSome held (λ files. IsExpanded (taken (includes left files) mid line) (Rose cur.read_faults now.read_faults) new (Err s)) → IfSome held (λ files. IsExpanded (opened files (includes left files) old name) (Rose start.read_faults now.read_faults) new (Err s))
    at None h k = tt
    at (Some files) h k =
        stops_at (includes left files) (Rose cur.read_faults now.read_faults) (Rose start.read_faults now.read_faults) mid new line lines (opened files (includes left files) old name) s (includes_keep left files)
        (rose_later start.read_faults cur.read_faults now.read_faults only.read_faults) h k

-- all of them are taken
pub file_done : (start now : FolderState) (old new : Expansion) (name : List ℕ) (left rest : ℕ) (lines : List Line) (done : ⊤) → OnlyRead start now → lines ≡ []
    → IfSome start.held (λ held. goes (taken (includes left held)) new lines ≡ opened held (includes left held) old name) → Growing old new rest → Expands start now (λ files. opened files (includes left files) old name) old new 1 0 (Ok done)
file_done start now old new name left rest lines done only none so_far growing = record {
  only = only;
  told = at start.held so_far;
  untold = no_untold start.held;
  grows = growing_done old new rest growing;
  fault = tt;
}
  where
    at : (held : Option HeldFiles) → IfSome held (λ files. goes (taken (includes left files)) new lines ≡ opened files (includes left files) old name) → IfSome held (λ files. opened files (includes left files) old name ≡ Ok new)
    at None h = tt
    at (Some files) h = sym h ∙ ap (goes (taken (includes left files)) new) none ∙ goes-nil (taken (includes left files)) new
