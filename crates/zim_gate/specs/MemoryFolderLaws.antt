-- A folder in memory tells all, and keeps its promise.
use Rattle.std.specs.Prelude.{◌≡◌, ℕ, ◌<◌, List, [], ◌∷◌, Some, refl, unwrap_or, MatchOption, ⊤}
use Rattle.std.proofs.Common.{sym, ap, subst}
use Rattle.zim_gate.specs.declared.memory_folders.MemoryFolder.{MemoryFolder}
use Rattle.zim_gate.specs.Folder.{IsSound}
use Rattle.zim_gate.specs.Stored.{promised_room}
use Rattle.zim_gate.specs.MemoryFolder.{folder_state}

-- equal options have equal values
same_value : (a b : ℕ) → Some a ≡ Some b → a ≡ b
same_value a b e = ap (λ o. unwrap_or o a) e

-- where a room is promised, it is the room, and no call is to fail
promise_kept : (fails : List ℕ) (room limit wrote told : ℕ) (P : Type 0) → (fails ≡ [] → wrote < room → P) →
    promised_room fails room ≡ Some limit → Some wrote ≡ Some told → told < limit → P
promise_kept [] room limit wrote told P kept is same below =
    kept refl (subst (λ n. n < room) (sym (same_value wrote told same)) (subst (λ n. told < n) (sym (same_value room limit is)) below))
promise_kept (_ ∷ _) room limit wrote told P kept is same below =
    absurd (subst (λ o. MatchOption o ⊤ (λ _. ⊥)) is tt)

-- what a folder in memory keeps
pub folder_state-IsSound : (folder : MemoryFolder) → IsSound (folder_state folder)
folder_state-IsSound folder = record {
  rest_told = λ _. refl;
  wrote_told = λ _. refl;
  faultless = λ limit wrote is same below.
      promise_kept folder.calls.fails.items folder.room limit folder.wrote wrote ((folder.read_faults ≡ 0) × (folder.write_faults ≡ 0))
      folder.faultless is same below;
}
