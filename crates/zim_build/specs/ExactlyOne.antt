-- The laws of what a name is among some files: it is exactly one of the three, in one way.
use Rattle.std.specs.Prelude.{◌≡◌, ℕ, List}
use Rattle.zim_fault.specs.declared.faults.Fault.{Fault}
use Rattle.zim_gate.specs.Folder.{HeldFiles}
use Rattle.zim_build.specs.Model.{Model}
use Rattle.zim_build.specs.Reading.{HasModel, HasFirstFault, MissesFile}

-- A name is a model, or has a first fault, or misses a file.
pub data IsOneOfThree (files : HeldFiles) (name : List ℕ) : Type 0 where
  a_model : (model : Model) (opened : List (List ℕ)) → HasModel files name model opened → IsOneOfThree files name
  a_fault : (fault : Fault) (opened : List (List ℕ)) (printed : List ℕ) → HasFirstFault files name fault opened printed → IsOneOfThree files name
  a_missing_file : (missing printed : List ℕ) → MissesFile files name missing printed → IsOneOfThree files name

-- A name is one model at most, for which the same files are opened.
abbrev pub NamesOneModel : HeldFiles → List ℕ → Type 0
NamesOneModel files name =
    (one other : Model) (opened others : List (List ℕ)) → HasModel files name one opened → HasModel files name other others → (one ≡ other) × (opened ≡ others)

-- A name has one first fault at most, among the same files and behind the same text.
abbrev pub HasOneFirstFault : HeldFiles → List ℕ → Type 0
HasOneFirstFault files name =
    (fault other : Fault) (opened others : List (List ℕ)) (printed text : List ℕ) → HasFirstFault files name fault opened printed → HasFirstFault files name other others text →
    (fault ≡ other) × (opened ≡ others) × (printed ≡ text)

-- A name misses one file at most, behind the same text.
abbrev pub MissesOneFile : HeldFiles → List ℕ → Type 0
MissesOneFile files name =
    (missing other printed text : List ℕ) → MissesFile files name missing printed → MissesFile files name other text → (missing ≡ other) × (printed ≡ text)

-- A name is at most one of the three.
pub record IsOneAtMost (files : HeldFiles) (name : List ℕ) : Type 0 where
  pub model_or_fault : (model : Model) (opened : List (List ℕ)) (fault : Fault) (others : List (List ℕ)) (printed : List ℕ) → HasModel files name model opened →
      HasFirstFault files name fault others printed → ⊥
  pub model_or_missing : (model : Model) (opened : List (List ℕ)) (missing printed : List ℕ) → HasModel files name model opened → MissesFile files name missing printed → ⊥
  pub fault_or_missing : (fault : Fault) (opened : List (List ℕ)) (printed missing text : List ℕ) → HasFirstFault files name fault opened printed →
      MissesFile files name missing text → ⊥
