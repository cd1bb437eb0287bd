-- A call that stops early for a cause stops the whole for the same cause.
use Rattle.std.proofs.Common.{◌≡◌, ℕ, ◌<◌, List, length, drop, get_or, Result, sym, ◌∙◌, ap}
use Rattle.zim_answer.specs.Answer.{◌>>=◌, goes}
use Rattle.zim_answer.proofs.GoesLemmas.{goes_stop}
use Rattle.zim_answer.specs.Gives.{Cause, NoMemory, Met, Never, Stops}

pub Stops-bind : {A B F : Type 0} (answer : Result A F) (next : A → Result B F) (cause : Cause F) → Stops answer cause → Stops (answer >>= next) cause
Stops-bind answer next NoMemory stops = tt
Stops-bind answer next (Met fault) stops = ap (λ a. a >>= next) stops
Stops-bind answer next Never stops = stops

-- two equal answers stop for the same causes
pub Stops-equal : {A F : Type 0} (answer other : Result A F) (cause : Cause F) → answer ≡ other → Stops answer cause → Stops other cause
Stops-equal answer other NoMemory same stops = tt
Stops-equal answer other (Met fault) same stops = sym same ∙ stops
Stops-equal answer other Never same stops = stops

-- one step that stops for a cause is where the whole stops for it
pub Stops-goes : {S X F : Type 0} (step : S → X → Result S F) (state : S) (items : List X) (i : ℕ) (item : X) (cause : Cause F) (whole : Result S F) → i < length items → get_or items i item ≡ item → Stops (step state item) cause
    → goes step state (drop i items) ≡ whole → Stops whole cause
Stops-goes step state items i item NoMemory whole lt is stops so_far = tt
Stops-goes step state items i item (Met fault) whole lt is stops so_far = goes_stop step state items i item fault whole lt is stops so_far
Stops-goes step state items i item Never whole lt is stops so_far = stops
