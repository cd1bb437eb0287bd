-- Going on over a list, as a loop over it meets its items.
use Rattle.std.proofs.Common.{◌≡◌, ℕ, ◌+◌, ◌<◌, List, length, drop, get_or, Result, Ok, ap, sym, ◌∙◌, subst}
use Rattle.std.proofs.lemmas.List.{drop_more}
use Rattle.zim_answer.specs.Answer.{◌>>=◌, goes}
use Rattle.zim_answer.specs.Gives.{Cause, Stops}
use Rattle.zim_answer.proofs.GivesLemmas.{Stops-bind}
use Rattle.zim_answer.proofs.GoesLemmas.{goes-cons}

one_step : {S X F : Type 0} (step : S → X → Result S F) (state : S) (items : List X) (i : ℕ) (default item : X) → i < length items → get_or items i default ≡ item → goes step state (drop i items) ≡ (step state item >>= λ next. goes step next (drop (i + 1) items))
one_step step state items i default item low is =
    ap (goes step state) (drop_more items i default low) ∙ goes-cons step state (get_or items i default) (drop (i + 1) items)
    ∙ ap (λ x. step state x >>= λ next. goes step next (drop (i + 1) items)) is

-- an item leads to the next state
pub next_at : {S X F : Type 0} (step : S → X → Result S F) (state next : S) (items : List X) (i : ℕ) (default item : X) (whole : Result S F) → i < length items → get_or items i default ≡ item → step state item ≡ Ok next → goes step state (drop i items) ≡ whole → goes step next (drop (i + 1) items) ≡ whole
next_at step state next items i default item whole low is gives so_far =
    sym (one_step step state items i default item low is ∙ ap (λ a. a >>= λ n. goes step n (drop (i + 1) items)) gives) ∙ so_far

-- an item stops the whole
pub stop_at : {S X F : Type 0} (step : S → X → Result S F) (state : S) (items : List X) (i : ℕ) (default item : X) (cause : Cause F) (whole : Result S F) → i < length items → get_or items i default ≡ item → Stops (step state item) cause → goes step state (drop i items) ≡ whole → Stops whole cause
stop_at step state items i default item cause whole low is stops so_far =
    subst (λ a. Stops a cause) (sym (one_step step state items i default item low is) ∙ so_far) (Stops-bind (step state item) (λ next. goes step next (drop (i + 1) items)) cause stops)
