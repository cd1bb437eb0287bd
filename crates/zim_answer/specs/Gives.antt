-- What a call's result has to do with an answer.
use Rattle.std.specs.Prelude.{◌≡◌, Result, Ok, Err}

-- what an error of a call tells: that memory was refused, that this fault was met first, or what the call never answers
pub data Cause (F : Type 0) : Type 0 where
  NoMemory : Cause F
  Met : F → Cause F
  Never : Cause F

-- a call that stops for this cause has this answer before it: at a fault the answer is that fault, and want of memory is free
abbrev pub Stops : {A F : Type 0} → Result A F → Cause F → Type 0
Stops answer NoMemory = Unit {0}
Stops answer (Met fault) = answer ≡ Err fault
Stops answer Never = ⊥

-- a result is what the answer says: its value, seen by `view`, is the answer's, and its error, seen by `cause`, is the answer's fault
abbrev pub Gives : {V A E F : Type 0} → (V → A) → (E → Cause F) → Result A F → Result V E → Type 0
Gives view cause answer (Ok value) = answer ≡ Ok (view value)
Gives view cause answer (Err error) = Stops answer (cause error)
