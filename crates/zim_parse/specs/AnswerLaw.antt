-- The laws of the answers: the same tokens have one answer at most, and a fault stands at one of them.
use Rattle.std.specs.Prelude.{◌≡◌, List, ◌∷◌, map}
use Rattle.std.specs.List.{Contains}
use Rattle.zim_fault.specs.declared.faults.Place.{Place}
use Rattle.zim_fault.specs.declared.faults.Fault.{Fault}
use Rattle.zim_fault.specs.declared.tokens.Placed.{Placed}
use Rattle.zim_tree.specs.declared.stmt.Stmt.{Stmt}
use Rattle.zim_parse.specs.Answers.{Accepts, Refuses}

-- tokens are accepted as one statement at most
abbrev pub AcceptedAsOne : Type 0
AcceptedAsOne = (ts : List Placed) (a b : Stmt) → Accepts ts a → Accepts ts b → a ≡ b

-- tokens that are accepted aren't refused
abbrev pub AcceptedIsNotRefused : Type 0
AcceptedIsNotRefused = (ts : List Placed) (s : Stmt) (f : Fault) → Accepts ts s → Refuses ts f → ⊥

-- tokens are refused with one fault at most
abbrev pub RefusedWithOne : Type 0
RefusedWithOne = (ts : List Placed) (f g : Fault) → Refuses ts f → Refuses ts g → f ≡ g

-- the places of tokens
abbrev pub places_of : List Placed → List Place
places_of = map (λ (t : Placed). t.place)

-- the fault of tokens stands at one of them
abbrev pub FaultIsAtToken : Type 0
FaultIsAtToken = (ts : List Placed) (f : Fault) → Refuses ts f → Contains (places_of ts) f.place

-- tokens are a statement, or they have a fault
pub data HasAnswer (ts : List Placed) : Type 0 where
  accepted : (s : Stmt) → Accepts ts s → HasAnswer ts
  refused : (f : Fault) → Refuses ts f → HasAnswer ts

-- all tokens have an answer, where there is one token or more
abbrev pub TokensHaveAnswer : Type 0
TokensHaveAnswer = (t : Placed) (rest : List Placed) → HasAnswer (t ∷ rest)
