-- What the expansion of a model tells of its load.
use Rattle.std.proofs.Common.{◌≡◌, ℕ, ◌<◌, List, [], ◌∷◌, Option, Some, None, Ok, Err, inl, inr, refl, ap, ◌∙◌, arith}
use Rattle.std.specs.Prelude.{IfSome, ⊤}
use Rattle.std.proofs.lemmas.List.Elements.{All-nil}
use Rattle.zim_answer.specs.Answer.{Answer, ◌>>=◌}
use Rattle.zim_fault.specs.declared.faults.Fault as faults
use Rattle.zim_gate.specs.Counts.{Rose}
use Rattle.zim_gate.specs.Folder.{HeldFiles, FolderState}
use Rattle.zim_lex.specs.declared.expanding.Expansion.{Expansion}
use Rattle.zim_lex.specs.declared.expanding.Stop.{Stop}
use Rattle.zim_lex.specs.declared.expanding.Stop.TheVariants as stops
use Rattle.zim_lex.specs.declared.faults.LoadFault.TheVariants as loading
use Rattle.zim_lex.specs.declared.lines.Loaded.{Loaded}
use Rattle.zim_lex.specs.Expanded.{Refusal, Missing, At, includes, opened, nothing, model_in}
use Rattle.zim_lex.specs.Expanding.{Expands, IfKnown}
use Rattle.zim_lex.specs.Loading.{Loads, load_fault}
use Rattle.zim_lex.specs.Opened.{ComeFirst}
use Rattle.zim_lex.specs.Unread.{MayBeUnread}

-- the lines and files of a whole expansion
abbrev pub as_loaded : Expansion → Loaded
as_loaded all = record { lines = all.lines; files = all.files }

-- what the model's expansion is
abbrev pub expansion : List ℕ → HeldFiles → Answer Expansion Refusal
expansion name files = opened files (includes 15 files) nothing name

model_is : (files : HeldFiles) (name : List ℕ) → model_in files name ≡ (expansion name files >>= λ all. Ok (as_loaded all))
unfolding model_in
model_is files name = refl

if_some : (P Q : HeldFiles → Type 0) (held : Option HeldFiles) → ((files : HeldFiles) → P files → Q files) → IfSome held P → IfSome held Q
if_some P Q None follows h = tt
if_some P Q (Some files) follows h = follows files h

unread_loaded : (rose : Type 0) (answer : Answer Expansion Refusal) (name : List ℕ) → MayBeUnread (λ all. all.files) rose answer name → MayBeUnread (λ all. all.files) rose (answer >>= λ all. Ok (as_loaded all)) name
unread_loaded rose answer name (inl missing) = inl (record { files = missing.files; met = ap (λ (a : Answer Expansion Refusal). a >>= λ all. Ok (as_loaded all)) missing.met })
unread_loaded rose (Ok all) name (inr both) = inr both
unread_loaded rose (Err (Missing other files)) name (inr both) = inr both
unread_loaded rose (Err (At fault files)) name (inr both) = inr both

-- all is loaded
pub loads_all : (before now : FolderState) (name : List ℕ) (new : Expansion) (done : ⊤) → Expands before now (expansion name) nothing new 1 0 (Ok done) → ComeFirst (name ∷ []) new.files → now.begun ≡ None → Loads before now name (Ok (as_loaded new))
loads_all before now name new done expands opened begun = record {
  tells = record {
    told = if_some (λ files. expansion name files ≡ Ok new) (λ files. model_in files name ≡ Ok (as_loaded new)) before.held
        (λ files is. model_is files name ∙ ap (λ (a : Answer Expansion Refusal). a >>= λ all. Ok (as_loaded all)) is) expands.told;
    untold = expands.untold;
  };
  within = record {
    files = omega (arith, expands.grows.files);
    lines = record { bytes = omega (arith, expands.grows.bytes); places = expands.grows.places (All-nil (λ line. line.place.file < 0)) };
  };
  fault = tt;
  opened = opened;
  only = expands.only;
  begun = begun;
}

-- a fault is met
loads_fault : (before now : FolderState) (name : List ℕ) (new : Expansion) (fault : faults.Fault) → Expands before now (expansion name) nothing new 1 0 (Err (stops.Fault fault)) → ComeFirst (name ∷ []) new.files → now.begun ≡ None → Loads before now name (Err (loading.Fault fault new.files))
loads_fault before now name new fault expands opened begun = record {
  tells = record {
    told = if_some (λ files. expansion name files ≡ Err (At fault new.files)) (λ files. model_in files name ≡ Err (At fault new.files)) before.held
        (λ files is. model_is files name ∙ ap (λ (a : Answer Expansion Refusal). a >>= λ all. Ok (as_loaded all)) is) expands.told;
    untold = expands.untold;
  };
  within = tt;
  fault = expands.fault;
  opened = opened;
  only = expands.only;
  begun = begun;
}

-- a file stays unread
loads_unread : (before now : FolderState) (name unread : List ℕ) (new : Expansion) → Expands before now (expansion name) nothing new 1 0 (Err (stops.Read unread)) → now.begun ≡ None → Loads before now name (Err (loading.Read unread))
loads_unread before now name unread new expands begun = record {
  tells = record {
    told = if_some (λ files. MayBeUnread (λ all. all.files) (Rose before.read_faults now.read_faults) (expansion name files) unread)
        (λ files. MayBeUnread (λ all. all.files) (Rose before.read_faults now.read_faults) (model_in files name) unread) before.held
        (λ files may. rw (model_is files name) (unread_loaded (Rose before.read_faults now.read_faults) (expansion name files) unread may)) expands.told;
    untold = expands.untold;
  };
  within = tt;
  fault = tt;
  opened = tt;
  only = expands.only;
  begun = begun;
}

-- memory is refused
loads_nothing : (before now : FolderState) (name : List ℕ) (new : Expansion) → Expands before now (expansion name) nothing new 1 0 (Err stops.Memory) → now.begun ≡ None → Loads before now name (Err loading.Memory)
loads_nothing before now name new expands begun = record {
  tells = record { told = if_some (λ files. Unit {0}) (λ files. Unit {0}) before.held (λ files h. tt) expands.told; untold = expands.untold };
  within = tt;
  fault = tt;
  opened = tt;
  only = expands.only;
  begun = begun;
}

-- a stop of any kind
pub loads_stop : (before now : FolderState) (name : List ℕ) (new : Expansion) (stop : Stop) → Expands before now (expansion name) nothing new 1 0 (Err stop) → IfKnown {A = ⊤} (Err stop) (ComeFirst (name ∷ []) new.files) → now.begun ≡ None → Loads before now name (Err (load_fault stop new.files))
loads_stop before now name new (stops.Fault fault) expands opened begun = loads_fault before now name new fault expands opened begun
loads_stop before now name new (stops.Read unread) expands opened begun = loads_unread before now name unread new expands begun
loads_stop before now name new stops.Memory expands opened begun = loads_nothing before now name new expands begun
