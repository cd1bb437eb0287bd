-- Choices among the items of a list: how many there are, that they are parts of the list, and the steps of the walk
-- that lists them.
use Rattle.std.proofs.Common.{ℕ, zero, suc, ◌≡◌, ◌≤◌, ◌<◌, ◌+◌, ◌^◌, Bool, false, List, [], ◌∷◌, ◌++◌, length, map, refl, ap, ◌∙◌, arith, append-nil, length-append}
use Rattle.std.proofs.Math.Nat.{pow-suc}
use Rattle.std.proofs.lemmas.List.{length-map}
use Rattle.std.specs.List.{AllByRecursion, IsDistinct}
use Rattle.zim_sets.proofs.DistinctLemmas.{all_append}
use Rattle.zim_sets.specs.Choices.{choices, choices_below, ways}

pub choices-zero : {X : Type 0} (xs : List X) → choices 0 xs ≡ [] ∷ []
unfolding choices
choices-zero [] = refl
choices-zero (x ∷ xs) = refl

pub choices-nil : {X : Type 0} (n : ℕ) → choices {X = X} (suc n) [] ≡ []
unfolding choices
choices-nil n = refl

pub choices-cons : {X : Type 0} (n : ℕ) (x : X) (xs : List X) → choices (suc n) (x ∷ xs) ≡ map (λ rest. x ∷ rest) (choices n xs) ++ choices (suc n) xs
unfolding choices
choices-cons n x xs = refl

-- there are as many as the ways to choose
pub length-choices : {X : Type 0} (n : ℕ) (xs : List X) → length (choices n xs) ≡ ways (length xs) n
unfolding choices ways
length-choices zero [] = refl
length-choices zero (x ∷ xs) = refl
length-choices (suc n) [] = refl
length-choices (suc n) (x ∷ xs) =
    let with = length-choices n xs in
    let without = length-choices (suc n) xs in
    length-append (map (λ rest. x ∷ rest) (choices n xs)) (choices (suc n) xs) ∙ (λ i. (length-map (choices n xs) (λ rest. x ∷ rest) ∙ with) i + without i)

-- there are none of more items than the list has
pub choices_none : {X : Type 0} (n : ℕ) (xs : List X) → length xs < n → choices n xs ≡ []
unfolding choices
choices_none zero xs short = absurd (omega arith)
choices_none (suc n) [] short = refl
choices_none (suc n) (x ∷ xs) short =
    λ i. map (λ rest. x ∷ rest) (choices_none n xs (omega arith) i) ++ choices_none (suc n) xs (omega arith) i

all_map : {X Y : Type 0} (P : Y → Type 0) (f : X → Y) (xs : List X) → AllByRecursion (λ x. P (f x)) xs → AllByRecursion P (map f xs)
all_map P f [] all = tt
all_map P f (x ∷ xs) all = (all.0, all_map P f xs all.1)

all_with : {X : Type 0} (P Q R : X → Type 0) → ((x : X) → P x → Q x → R x) → (xs : List X) → AllByRecursion P xs → AllByRecursion Q xs → AllByRecursion R xs
all_with P Q R both [] first second = tt
all_with P Q R both (x ∷ xs) first second = (both x first.0 second.0, all_with P Q R both xs first.1 second.1)

-- what holds of each item holds of each of a choice
pub choices_all : {X : Type 0} (P : X → Type 0) (n : ℕ) (xs : List X) → AllByRecursion P xs → AllByRecursion (λ c. AllByRecursion P c) (choices n xs)
unfolding choices
choices_all P zero [] all = (tt, tt)
choices_all P zero (x ∷ xs) all = (tt, tt)
choices_all P (suc n) [] all = tt
choices_all P (suc n) (x ∷ xs) all =
    all_append (λ c. AllByRecursion P c) (map (λ rest. x ∷ rest) (choices n xs)) (choices (suc n) xs)
    (all_map (λ c. AllByRecursion P c) (λ rest. x ∷ rest) (choices n xs) (all_with (λ c. AllByRecursion P c) (λ c. AllByRecursion P c) (λ c. AllByRecursion P (x ∷ c)) (λ c with same. (all.0, with)) (choices n xs) (choices_all P n xs all.1) (choices_all P n xs all.1)))
    (choices_all P (suc n) xs all.1)

pub choices_distinct : {X : Type 0} (e : X → X → Bool) (n : ℕ) (xs : List X) → IsDistinct e xs → AllByRecursion (λ c. IsDistinct e c) (choices n xs)
unfolding choices IsDistinct
choices_distinct e zero [] distinct = (tt, tt)
choices_distinct e zero (x ∷ xs) distinct = (tt, tt)
choices_distinct e (suc n) [] distinct = tt
choices_distinct e (suc n) (x ∷ xs) distinct =
    all_append (λ c. IsDistinct e c) (map (λ rest. x ∷ rest) (choices n xs)) (choices (suc n) xs)
    (all_map (λ c. IsDistinct e c) (λ rest. x ∷ rest) (choices n xs) (all_with (λ c. AllByRecursion (λ y. e x y ≡ false) c) (λ c. IsDistinct e c) (λ c. IsDistinct e (x ∷ c)) (λ c new rest. (new, rest)) (choices n xs) (choices_all (λ y. e x y ≡ false) n xs distinct.0) (choices_distinct e n xs distinct.1)))
    (choices_distinct e (suc n) xs distinct.1)

all_longer : {X : Type 0} (k m : ℕ) → k ≤ m → (cs : List (List X)) → AllByRecursion (λ c. length c ≤ k) cs → AllByRecursion (λ c. length c ≤ m) cs
all_longer k m more [] all = tt
all_longer k m more (c ∷ cs) all = (let few = all.0 in omega arith, all_longer k m more cs all.1)

all_one_longer : {X : Type 0} (x : X) (k : ℕ) (cs : List (List X)) → AllByRecursion (λ c. length c ≤ k) cs → AllByRecursion (λ c. length c ≤ suc k) (map (λ rest. x ∷ rest) cs)
all_one_longer x k [] all = tt
all_one_longer x k (c ∷ cs) all = (let few = all.0 in omega arith, all_one_longer x k cs all.1)

-- a choice is no longer than the list
pub choices_few : {X : Type 0} (n : ℕ) (xs : List X) → AllByRecursion (λ c. length c ≤ length xs) (choices n xs)
unfolding choices
choices_few zero [] = (omega arith, tt)
choices_few zero (x ∷ xs) = (omega arith, tt)
choices_few (suc n) [] = tt
choices_few (suc n) (x ∷ xs) =
    all_append (λ c. length c ≤ suc (length xs)) (map (λ rest. x ∷ rest) (choices n xs)) (choices (suc n) xs)
    (all_one_longer x (length xs) (choices n xs) (choices_few n xs))
    (all_longer (length xs) (suc (length xs)) (omega arith) (choices (suc n) xs) (choices_few (suc n) xs))

below_first : {X : Type 0} (n : ℕ) (x : X) (xs : List X) → length (choices_below (suc n) (x ∷ xs)) ≡ length (choices_below n xs) + length (choices_below (suc n) xs)
unfolding choices_below choices
below_first zero x [] = refl
below_first zero x (y ∷ xs) = refl
below_first (suc n) x xs =
    let before = below_first n x xs in
    let with = length-append (choices_below n xs) (choices n xs) in
    let without = length-append (choices_below (suc n) xs) (choices (suc n) xs) in
    let here = length-append (map (λ rest. x ∷ rest) (choices n xs)) (choices (suc n) xs) in
    let mapped = length-map (choices n xs) (λ rest. x ∷ rest) in
    length-append (choices_below (suc n) (x ∷ xs)) (choices (suc n) (x ∷ xs)) ∙ omega arith

below_nil : (X : Type 0) (n : ℕ) → length (choices_below {X = X} (suc n) []) ≡ 1
unfolding choices_below choices
below_nil X zero = refl
below_nil X (suc n) = ap length (append-nil (choices_below {X = X} (suc n) [])) ∙ below_nil X n

-- a list has 2 to the power of its length choices of any number of items
pub length-choices_below : {X : Type 0} (n : ℕ) (xs : List X) → length xs < n → length (choices_below n xs) ≡ 2 ^ length xs
length-choices_below zero xs many = absurd (omega arith)
length-choices_below {X} (suc n) [] many = below_nil X n
length-choices_below (suc n) (x ∷ xs) many =
    let with = length-choices_below n xs (omega arith) in
    let without = length-choices_below (suc n) xs (omega arith) in
    below_first n x xs ∙ omega (arith, pow-suc 2 (length xs))
