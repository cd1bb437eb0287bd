-- An answer, and the two ways to go on: with its value, and over a list.
use Rattle.std.specs.Prelude.{List, [], ◌∷◌, Result, Ok, Err}

-- a value, or the first fault that was met
abbrev pub Answer : Type 0 → Type 0 → Type 0
Answer A F = Result A F

infixl 10 ◌>>=◌
-- goes on with the value, and stops at the fault
abbrev pub ◌>>=◌ : {A B F : Type 0} → Result A F → (A → Result B F) → Result B F
(Ok value) >>= next = next value
(Err fault) >>= next = Err fault

-- goes on over a list, one item after another from a state to the next state, until the first fault
unfoldable pub goes : {S X F : Type 0} → (S → X → Result S F) → S → List X → Result S F
goes step state [] = Ok state
goes step state (item ∷ items) = step state item >>= λ next. goes step next items

-- goes on over one list and then over another
abbrev pub goes_twice : {S X F : Type 0} → (S → X → Result S F) → S → List X → List X → Result S F
goes_twice step state front back = goes step state front >>= λ between. goes step between back
