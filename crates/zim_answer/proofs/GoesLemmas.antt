-- Going on over a list: its next step, its stop at a fault, its end, and the same as a loop over the list meets them.
use Rattle.std.proofs.Common.{◌≡◌, ℕ, ◌+◌, ◌<◌, ◌≤◌, List, [], ◌∷◌, ◌++◌, length, drop, get_or, Result, Ok, Err, refl, sym, ◌∙◌, add-one, drop-cons}
use Rattle.std.proofs.lemmas.List.{drop_all}
use Rattle.zim_answer.specs.Answer.{◌>>=◌, goes}
use Rattle.zim_answer.proofs.BindLemmas.{bind_assoc, bind_same}

pub goes-nil : {S X F : Type 0} (step : S → X → Result S F) (state : S) → goes step state [] ≡ Ok state
unfolding goes
goes-nil step state = refl

pub goes-cons : {S X F : Type 0} (step : S → X → Result S F) (state : S) (item : X) (items : List X) → goes step state (item ∷ items) ≡ (step state item >>= λ next. goes step next items)
unfolding goes
goes-cons step state item items = refl

pub goes-append : {S X F : Type 0} (step : S → X → Result S F) (state : S) (front back : List X) → goes step state (front ++ back) ≡ (goes step state front >>= λ between. goes step between back)
unfolding goes
goes-append step state [] back = refl
goes-append step state (item ∷ items) back =
    bind_same (step state item) _ _ (λ next. goes-append step next items back)
    ∙ sym (bind_assoc (step state item) (λ next. goes step next items) (λ between. goes step between back))

-- one step that gives a state leads from what is left at i to what is left at i + 1
pub goes_next : {S X F : Type 0} (step : S → X → Result S F) (state next : S) (items : List X) (i : ℕ) (item : X) (whole : Result S F) → i < length items → get_or items i item ≡ item → step state item ≡ Ok next
    → goes step state (drop i items) ≡ whole → goes step next (drop (i + 1) items) ≡ whole
goes_next step state next items i item whole lt is h so_far =
    let cut : drop i items ≡ item ∷ drop (i + 1) items = rw (add-one, drop-cons items i item lt, is) refl in
    let one : goes step state (drop i items) ≡ goes step next (drop (i + 1) items) = rw (cut, goes-cons, h) refl in
    sym one ∙ so_far

-- one step that meets a fault is where the whole stops
pub goes_stop : {S X F : Type 0} (step : S → X → Result S F) (state : S) (items : List X) (i : ℕ) (item : X) (fault : F) (whole : Result S F) → i < length items → get_or items i item ≡ item → step state item ≡ Err fault
    → goes step state (drop i items) ≡ whole → whole ≡ Err fault
goes_stop step state items i item fault whole lt is h so_far =
    let cut : drop i items ≡ item ∷ drop (i + 1) items = rw (add-one, drop-cons items i item lt, is) refl in
    let one : goes step state (drop i items) ≡ Err fault = rw (cut, goes-cons, h) refl in
    sym so_far ∙ one

-- past the last item the state is the whole answer
pub goes_done : {S X F : Type 0} (step : S → X → Result S F) (state : S) (items : List X) (i : ℕ) (whole : Result S F) → length items ≤ i → goes step state (drop i items) ≡ whole → whole ≡ Ok state
goes_done step state items i whole le so_far =
    let one : goes step state (drop i items) ≡ Ok state = rw (drop_all i items le, goes-nil) refl in
    sym so_far ∙ one
