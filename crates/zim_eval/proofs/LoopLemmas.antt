-- One step of a loop, in the form in which the code meets it.
use Rattle.std.proofs.Common.{◌≡◌, ℕ, ◌+◌, ◌<◌, List, length, drop, get_or, Result, Ok, Err, sym}
use Rattle.std.proofs.lemmas.List.{get_or_default}
use Rattle.zim_answer.specs.Answer.{goes}
use Rattle.zim_answer.specs.Gives.{Cause, Stops}
use Rattle.zim_answer.proofs.GivesLemmas.{Stops-goes}
use Rattle.zim_answer.proofs.GoesLemmas.{goes_next, goes_stop}

-- a step that gives a state leads on to what is left
pub next_at : {S X F : Type 0} (step : S → X → Result S F) (state next : S) (items : List X) (i : ℕ) (item : X) (whole : Result S F) → i < length items → item ≡ get_or items i item → step state item ≡ Ok next
    → goes step state (drop i items) ≡ whole → goes step next (drop (i + 1) items) ≡ whole
next_at step state next items i item whole lt is h so_far = goes_next step state next items i item whole lt (sym is) h so_far

-- a step that stops stops the whole
pub stop_at : {S X F : Type 0} (step : S → X → Result S F) (state : S) (items : List X) (i : ℕ) (item : X) (cause : Cause F) (whole : Result S F) → i < length items → item ≡ get_or items i item → Stops (step state item) cause
    → goes step state (drop i items) ≡ whole → Stops whole cause
stop_at step state items i item cause whole lt is stops so_far = Stops-goes step state items i item cause whole lt (sym is) stops so_far

-- a step that meets a fault is where the whole meets it
pub fault_at : {S X F : Type 0} (step : S → X → Result S F) (state : S) (items : List X) (i : ℕ) (item : X) (fault : F) (whole : Result S F) → i < length items → item ≡ get_or items i item → step state item ≡ Err fault
    → goes step state (drop i items) ≡ whole → Err fault ≡ whole
fault_at step state items i item fault whole lt is h so_far = sym (goes_stop step state items i item fault whole lt (sym is) h so_far)

-- the same, where the item was copied out of the list
pub next_copied : {S X F : Type 0} (step : S → X → Result S F) (state next : S) (items : List X) (i : ℕ) (d : X) (whole : Result S F) → i < length items → step state (get_or items i d) ≡ Ok next
    → goes step state (drop i items) ≡ whole → goes step next (drop (i + 1) items) ≡ whole
next_copied step state next items i d whole lt h so_far = goes_next step state next items i (get_or items i d) whole lt (get_or_default items i (get_or items i d) d lt) h so_far

pub stop_copied : {S X F : Type 0} (step : S → X → Result S F) (state : S) (items : List X) (i : ℕ) (d : X) (cause : Cause F) (whole : Result S F) → i < length items → Stops (step state (get_or items i d)) cause
    → goes step state (drop i items) ≡ whole → Stops whole cause
stop_copied step state items i d cause whole lt stops so_far = Stops-goes step state items i (get_or items i d) cause whole lt (get_or_default items i (get_or items i d) d lt) stops so_far
