-- Lists without repeats: parts of them, joins of them, and what is new.
use Rattle.std.proofs.Common.{◌≡◌, Bool, true, false, ◌||◌, cond, List, [], ◌∷◌, ◌++◌, refl, ◌∙◌}
use Rattle.std.specs.Cmp.{IsEquivalence}
use Rattle.std.specs.List.{AllByRecursion, IsDistinct, filter, list_any}

pub all_append : {X : Type 0} (P : X → Type 0) (xs ys : List X) → AllByRecursion P xs → AllByRecursion P ys → AllByRecursion P (xs ++ ys)
all_append P [] ys front back = back
all_append P (x ∷ xs) ys front back = (front.0, all_append P xs ys front.1 back)

pub all_at : {X : Type 0} (P : X → Type 0) (xs : List X) (y : X) (ys : List X) → AllByRecursion P (xs ++ y ∷ ys) → P y
all_at P [] y ys all = all.0
all_at P (x ∷ xs) y ys all = all_at P xs y ys all.1

pub all_weaker : {X : Type 0} (P Q : X → Type 0) → ((x : X) → P x → Q x) → (xs : List X) → AllByRecursion P xs → AllByRecursion Q xs
all_weaker P Q weaker [] all = tt
all_weaker P Q weaker (x ∷ xs) all = (weaker x all.0, all_weaker P Q weaker xs all.1)

pub all_filter : {X : Type 0} (P : X → Type 0) (test : X → Bool) (xs : List X) → AllByRecursion P xs → AllByRecursion P (filter test xs)
all_filter P test [] all = tt
all_filter P test (x ∷ xs) all =
    elim (test x) as (λ passes. AllByRecursion P (cond passes (x ∷ filter test xs) (filter test xs))) [ true ↦ (all.0, all_filter P test xs all.1) | false ↦ all_filter P test xs all.1 ]

-- what is left of a filter passes the test
pub filter_passes : {X : Type 0} (test : X → Bool) (xs : List X) → AllByRecursion (λ x. test x ≡ true) (filter test xs)
filter_passes test [] = tt
filter_passes test (x ∷ xs) =
    (elim (test x) as (λ passes. test x ≡ passes → AllByRecursion (λ y. test y ≡ true) (cond passes (x ∷ filter test xs) (filter test xs))) [ true ↦ λ e. (e, filter_passes test xs) | false ↦ λ e. filter_passes test xs ]) refl

pub distinct_filter : {X : Type 0} (e : X → X → Bool) (test : X → Bool) (xs : List X) → IsDistinct e xs → IsDistinct e (filter test xs)
unfolding IsDistinct
distinct_filter e test [] distinct = tt
distinct_filter e test (x ∷ xs) distinct =
    elim (test x) as (λ passes. IsDistinct e (cond passes (x ∷ filter test xs) (filter test xs))) [ true ↦ (all_filter (λ y. e x y ≡ false) test xs distinct.0, distinct_filter e test xs distinct.1) | false ↦ distinct_filter e test xs distinct.1 ]

pub or_false_parts : (a b : Bool) → (a || b) ≡ false → (a ≡ false) × (b ≡ false)
or_false_parts true b none = (none, cc)
or_false_parts false b none = (refl, none)

pub or_false_from : (a b : Bool) → a ≡ false → b ≡ false → (a || b) ≡ false
or_false_from a b first second = λ i. first i || second i

-- none of a filter's elements passes what none of the list passes
pub none_of_filter : {X : Type 0} (other test : X → Bool) (xs : List X) → list_any other xs ≡ false → list_any other (filter test xs) ≡ false
none_of_filter other test [] none = refl
none_of_filter other test (x ∷ xs) none =
    let parts = or_false_parts (other x) (list_any other xs) none in
    elim (test x) as (λ passes. list_any other (cond passes (x ∷ filter test xs) (filter test xs)) ≡ false) [ true ↦ or_false_from (other x) (list_any other (filter test xs)) parts.0 (none_of_filter other test xs parts.1) | false ↦ none_of_filter other test xs parts.1 ]

-- in a list without repeats an element isn't among those before it
pub new_here : {X : Type 0} {e : X → X → Bool} → IsEquivalence e → (xs : List X) (y : X) (ys : List X) → IsDistinct e (xs ++ y ∷ ys) → list_any (e y) xs ≡ false
unfolding IsDistinct
new_here laws [] y ys distinct = refl
new_here {X} {e} laws (x ∷ xs) y ys distinct =
    or_false_from (e y x) (list_any (e y) xs) (laws.symm y x ∙ all_at (λ z. e x z ≡ false) xs y ys distinct.0) (new_here laws xs y ys distinct.1)

pub apart_from_first : {X : Type 0} {e : X → X → Bool} → IsEquivalence e → (x : X) (xs ys : List X) → AllByRecursion (λ y. list_any (e y) (x ∷ xs) ≡ false) ys → AllByRecursion (λ y. e x y ≡ false) ys
apart_from_first laws x xs [] apart = tt
apart_from_first {X} {e} laws x xs (y ∷ ys) apart =
    (laws.symm x y ∙ (or_false_parts (e y x) (list_any (e y) xs) apart.0).0, apart_from_first laws x xs ys apart.1)

-- two lists without repeats have none together, where nothing of the second is in the first
pub distinct_append : {X : Type 0} {e : X → X → Bool} → IsEquivalence e → (xs ys : List X) → IsDistinct e xs → IsDistinct e ys → AllByRecursion (λ y. list_any (e y) xs ≡ false) ys → IsDistinct e (xs ++ ys)
unfolding IsDistinct
distinct_append laws [] ys front back apart = back
distinct_append {X} {e} laws (x ∷ xs) ys front back apart = (
  all_append (λ y. e x y ≡ false) xs ys front.0 (apart_from_first laws x xs ys apart),
  distinct_append laws xs ys front.1 back (all_weaker _ _ (λ y none. (or_false_parts (e y x) (list_any (e y) xs) none).1) ys apart),
)
