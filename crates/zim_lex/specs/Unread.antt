-- When a file may stay unread.
use Rattle.std.specs.Prelude.{◌≡◌, ℕ, ◌⊎◌, List, ◌∷◌, ◌++◌, Result, Ok, Err}
use Rattle.zim_lex.specs.Expanded.{Refusal, Missing, At}

-- the names of the files that are opened before an answer
abbrev pub names_by : {A : Type 0} → (A → List (List ℕ)) → Result A Refusal → List (List ℕ)
names_by names (Ok value) = names value
names_by names (Err (Missing name files)) = files
names_by names (Err (At fault files)) = files

-- a name is among these
pub record IsAmong (name : List ℕ) (names : List (List ℕ)) : Type 0 where
  pub before : List (List ℕ)
  pub after : List (List ℕ)
  pub whole : before ++ name ∷ after ≡ names

-- no file has this name where the model opens it
pub record MeetsMissing {A : Type 0} (answer : Result A Refusal) (name : List ℕ) : Type 0 where
  pub files : List (List ℕ)
  pub met : answer ≡ Err (Missing name files)

-- the file isn't there, or a count rose and the file is one that is opened
abbrev pub MayBeUnread : {A : Type 0} → (A → List (List ℕ)) → Type 0 → Result A Refusal → List ℕ → Type 0
MayBeUnread names rose answer name = MeetsMissing answer name ⊎ (rose × IsAmong name (names_by names answer))
