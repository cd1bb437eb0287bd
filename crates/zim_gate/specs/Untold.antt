-- What is known of a folder or a sink that tells no content.
use Rattle.std.specs.Prelude.{◌≡◌, ℕ, List, Option, None, Some, MatchOption, ⊤}
use Rattle.std.proofs.Common.{subst}
use Rattle.zim_gate.specs.Folder.{FolderState, IsSound}
use Rattle.zim_gate.specs.Sink.{SinkState}

-- a folder that tells the name that is begun and its counts, and promises nothing
abbrev pub untold_folder : Option (List ℕ) → ℕ → ℕ → FolderState
untold_folder begun read_faults write_faults = record {
  held = None;
  rest = None;
  begun = begun;
  wrote = None;
  read_faults = read_faults;
  write_faults = write_faults;
  faultless_below = None;
}

-- a sink that tells its count
abbrev pub untold_sink : ℕ → SinkState
untold_sink faults = record { taken = None; faults = faults }

-- what isn't promised isn't owed
nothing_promised : (limit : ℕ) (P : Type 0) → None ≡ Some limit → P
nothing_promised limit P is = absurd (subst (λ o. MatchOption o ⊤ (λ _. ⊥)) is tt)

-- such a folder keeps what every folder keeps
pub untold_folder-IsSound : (begun : Option (List ℕ)) (read_faults write_faults : ℕ) → IsSound (untold_folder begun read_faults write_faults)
untold_folder-IsSound begun read_faults write_faults = record {
  rest_told = λ told. told;
  wrote_told = λ told. told;
  faultless = λ limit wrote is same below. nothing_promised limit ((read_faults ≡ 0) × (write_faults ≡ 0)) is;
}
