-- Inserting tuples of one shape one after another keeps the first of equal ones; and so a projection is a set.
use Rattle.std.proofs.Common.{ℕ, ◌≡◌, ◌≤◌, ◌+◌, Bool, true, false, ◌&&◌, ◌||◌, not, cond, List, [], ◌∷◌, ◌++◌, length, map, zero, suc, Result, Ok, Err, ◌<◌, ◌⊎◌, inl, inr, refl, sym, ap, ◌∙◌, arith, append-nil, length-append}
use Rattle.std.proofs.lemmas.Bool.{and_parts, and_from, cases_lt}
use Rattle.std.proofs.lemmas.List.{length-map}
use Rattle.std.specs.List.{filter, list_all, slice_get}
use Rattle.std.specs.Option.{option_to_list}
use Rattle.zim_answer.proofs.BindLemmas.{bind_same}
use Rattle.zim_answer.proofs.GoesLemmas.{goes-nil, goes-cons}
use Rattle.zim_answer.specs.Answer.{◌>>=◌, goes}
use Rattle.zim_sets.proofs.JoinLaws.{append_one}
use Rattle.zim_sets.proofs.ProductLaws.{shapes_joined, shape_of}
use Rattle.zim_sets.proofs.SetLemmas.{one_shape_from, all_of_append, fits_here, inserted_new, inserted_there, inserted_at_end, sized_few, sized_many}
use Rattle.zim_sets.proofs.ShapeLemmas.{tuples_equivalent}
use Rattle.zim_sets.specs.Choices.{item_at, items_at}
use Rattle.zim_sets.specs.Insertion.{sized, inserted}
use Rattle.zim_sets.specs.Listing.{set_listed}
use Rattle.zim_sets.specs.Products.{firsts, projected}
use Rattle.zim_sets.specs.Sets.{same_kind, same_shape, same_tuple, has_one_shape, fits, has, most, IsSet}
use Rattle.zim_fault.specs.declared.kinds.Kind.{Kind}
use Rattle.zim_fault.specs.declared.kinds.Kind.TheVariants.{WrongKind, SetSize}
use Rattle.zim_tuples.specs.declared.elements.Elem.{Elem}

-- one filter after another keeps what passes both
filter_both : (p q r : List Elem → Bool) → ((y : List Elem) → r y ≡ (q y && p y)) → (ys : List (List Elem)) → filter p (filter q ys) ≡ filter r ys
filter_both p q r both [] = refl
filter_both p q r both (y ∷ ys) =
    (elim (q y) as (λ found. r y ≡ (found && p y) → filter p (cond found (y ∷ filter q ys) (filter q ys)) ≡ cond (r y) (y ∷ filter r ys) (filter r ys)) [
      | true ↦ λ e. (λ i. cond (sym e i) (y ∷ filter_both p q r both ys i) (filter_both p q r both ys i))
      | false ↦ λ e. filter_both p q r both ys ∙ (λ i. cond (sym e i) (y ∷ filter r ys) (filter r ys))
    ]) (both y)

and_comm : (p q : Bool) → (p && q) ≡ (q && p)
and_comm true true = refl
and_comm true false = refl
and_comm false true = refl
and_comm false false = refl

filter_swap : (p q : List Elem → Bool) (ys : List (List Elem)) → filter p (filter q ys) ≡ filter q (filter p ys)
filter_swap p q ys =
    filter_both p q (λ y. q y && p y) (λ y. refl) ys ∙ sym (filter_both q p (λ y. q y && p y) (λ y. and_comm (q y) (p y)) ys)

passes : (q p : Bool) → (q ≡ false → p ≡ false) → p ≡ (q && p)
passes true p fails = refl
passes false p fails = fails refl

-- a test that fails where the other does keeps the same of what the other keeps
filter_skips : (p q : List Elem → Bool) → ((y : List Elem) → q y ≡ false → p y ≡ false) → (ys : List (List Elem)) → filter p (filter q ys) ≡ filter p ys
filter_skips p q fails ys =
    filter_both p q p (λ y. passes (q y) (p y) (fails y)) ys

not_false : (p : Bool) → not p ≡ false → p ≡ true
not_false true h = refl
not_false false h = sym h

-- a test that doesn't tell equal tuples apart keeps the same firsts before and after
filter-firsts : (p : List Elem → Bool) → ((x y : List Elem) → same_tuple x y ≡ true → p x ≡ p y) → (xs : List (List Elem)) → filter p (firsts xs) ≡ firsts (filter p xs)
unfolding firsts
filter-firsts p respects [] = refl
filter-firsts p respects (x ∷ xs) =
    let others : List Elem → Bool = λ y. not (same_tuple x y) in
    (elim (p x) as (λ found. p x ≡ found → cond found (x ∷ filter p (filter others (firsts xs))) (filter p (filter others (firsts xs))) ≡ firsts (cond found (x ∷ filter p xs) (filter p xs))) [
      | true ↦ λ e. ap (λ (rest : List (List Elem)). x ∷ rest) (filter_swap p others (firsts xs) ∙ ap (filter others) (filter-firsts p respects xs))
      | false ↦ λ e. filter_skips p others (λ y same. sym (respects x y (not_false (same_tuple x y) same)) ∙ e) (firsts xs) ∙ filter-firsts p respects xs
    ]) refl

or_false : (p : Bool) → (p || false) ≡ p
or_false true = refl
or_false false = refl

or_assoc : (p q r : Bool) → (p || (q || r)) ≡ ((p || q) || r)
or_assoc true q r = refl
or_assoc false q r = refl

any_last : (xs : List (List Elem)) (y z : List Elem) → has (xs ++ y ∷ []) z ≡ (has xs z || same_tuple z y)
any_last [] y z = or_false (same_tuple z y)
any_last (x ∷ xs) y z = ap (λ rest. same_tuple z x || rest) (any_last xs y z) ∙ or_assoc (same_tuple z x) (has xs z) (same_tuple z y)

neither : (p q : Bool) → not (p || q) ≡ (not p && not q)
neither true q = refl
neither false q = refl

new_after : (xs : List (List Elem)) (y z : List Elem) → not (has (xs ++ y ∷ []) z) ≡ (not (has xs z) && not (same_tuple y z))
new_after xs y z =
    ap not (any_last xs y z) ∙ neither (has xs z) (same_tuple z y) ∙ ap (λ r. not (has xs z) && not r) (tuples_equivalent.symm z y)

has_alike : (xs : List (List Elem)) (y z : List Elem) → same_tuple y z ≡ true → has xs y ≡ has xs z
has_alike [] y z e = refl
has_alike (x ∷ xs) y z e = λ i. tuples_equivalent.congr y z x e i || has_alike xs y z e i

apart_alike : (x y z : List Elem) → same_tuple y z ≡ true → same_tuple x y ≡ same_tuple x z
apart_alike x y z e = tuples_equivalent.symm x y ∙ tuples_equivalent.congr y z x e ∙ tuples_equivalent.symm z x

-- the firsts of what is new, after one more tuple is there
firsts_after : (xs ys : List (List Elem)) (y : List Elem) → firsts (filter (λ z. not (has (xs ++ y ∷ []) z)) ys) ≡ filter (λ z. not (same_tuple y z)) (firsts (filter (λ z. not (has xs z)) ys))
firsts_after xs ys y =
    ap firsts (sym (filter_both (λ z. not (same_tuple y z)) (λ z. not (has xs z)) (λ z. not (has (xs ++ y ∷ []) z)) (new_after xs y) ys))
    ∙ sym (filter-firsts (λ z. not (same_tuple y z)) (λ z w e. ap not (apart_alike y z w e)) (filter (λ z. not (has xs z)) ys))

fits_shape : (shape : List Elem) (xs : List (List Elem)) (y : List Elem) → list_all (same_shape shape) xs ≡ true → same_shape shape y ≡ true → fits xs y ≡ true
fits_shape shape xs y all here =
    fits_here xs y [] (one_shape_from shape (xs ++ y ∷ []) (all_of_append (same_shape shape) xs (y ∷ []) all (and_from (same_shape shape y) true here refl)))

goes_after : (xs next ys : List (List Elem)) (y : List Elem) → inserted xs y ≡ Ok next → goes inserted xs (y ∷ ys) ≡ goes inserted next ys
goes_after xs next ys y step =
    goes-cons inserted xs y ys ∙ ap (λ (a : Result (List (List Elem)) Kind). a >>= λ between. goes inserted between ys) step

-- inserting tuples of one shape adds the first of equal ones among those that aren't there
pub joined_firsts : (shape : List Elem) (xs ys : List (List Elem)) → list_all (same_shape shape) xs ≡ true → list_all (same_shape shape) ys ≡ true → length xs + length ys ≤ most → goes inserted xs ys ≡ Ok (xs ++ firsts (filter (λ z. not (has xs z)) ys))
unfolding firsts
joined_firsts shape xs [] front back few = goes-nil inserted xs ∙ ap Ok (sym (append-nil xs))
joined_firsts shape xs (y ∷ ys) front back few =
    let parts = and_parts (same_shape shape y) (list_all (same_shape shape) ys) back in
    let fitting = fits_shape shape xs y front parts.0 in
    (elim (has xs y) as (λ found. has xs y ≡ found → goes inserted xs (y ∷ ys) ≡ Ok (xs ++ firsts (cond (not found) (y ∷ filter (λ z. not (has xs z)) ys) (filter (λ z. not (has xs z)) ys)))) [
      | true ↦ λ e. goes_after xs xs ys y (inserted_there xs y fitting e) ∙ joined_firsts shape xs ys front parts.1 (omega arith)
      | false ↦ λ e.
          let more = xs ++ y ∷ [] in
          let step = inserted_at_end xs y fitting e (omega arith) in
          let all : list_all (same_shape shape) more ≡ true = all_of_append (same_shape shape) xs (y ∷ []) front (and_from (same_shape shape y) true parts.0 refl) in
          let rest = joined_firsts shape more ys all parts.1 (omega (arith, length-append xs (y ∷ []))) in
          goes_after xs more ys y step ∙ rest ∙ ap Ok (append_one xs y (firsts (filter (λ z. not (has more z)) ys)) ∙ ap (λ (tail : List (List Elem)). xs ++ y ∷ tail) (firsts_after xs ys y))
    ]) refl

pub goes_map : (step : List (List Elem) → List Elem → Result (List (List Elem)) Kind) (f : List Elem → List Elem) (start xs : List (List Elem)) → goes (λ state x. step state (f x)) start xs ≡ goes step start (map f xs)
goes_map step f start [] = goes-nil (λ state x. step state (f x)) start ∙ sym (goes-nil step start)
goes_map step f start (x ∷ xs) =
    goes-cons (λ state x. step state (f x)) start x xs ∙ bind_same (step start (f x)) _ _ (λ next. goes_map step f next xs) ∙ sym (goes-cons step start (f x) (map f xs))

item_shape : (s t : List Elem) (i : ℕ) → same_shape s t ≡ true → same_shape (option_to_list (slice_get s i)) (option_to_list (slice_get t i)) ≡ true
item_shape [] [] i alike = refl
item_shape [] (y ∷ t) i alike = cc
item_shape (x ∷ s) [] i alike = cc
item_shape (x ∷ s) (y ∷ t) zero alike = and_from (same_kind x y) true (and_parts (same_kind x y) (same_shape s t) alike).0 refl
item_shape (x ∷ s) (y ∷ t) (suc i) alike = item_shape s t i (and_parts (same_kind x y) (same_shape s t) alike).1

item_at_shape : (s t : List Elem) (position : ℕ) → same_shape s t ≡ true → same_shape (option_to_list (item_at s position)) (option_to_list (item_at t position)) ≡ true
item_at_shape s t zero alike = refl
item_at_shape s t (suc i) alike = item_shape s t i alike

-- components at the same positions of tuples of one shape are of one shape
items_shape : (s t : List Elem) (positions : List ℕ) → same_shape s t ≡ true → same_shape (items_at s positions) (items_at t positions) ≡ true
items_shape s t [] alike = refl
items_shape s t (p ∷ ps) alike =
    shapes_joined (option_to_list (item_at s p)) (option_to_list (item_at t p)) (items_at s ps) (items_at t ps) (item_at_shape s t p alike) (items_shape s t ps alike)

all_items_shape : (s : List Elem) (positions : List ℕ) (a : List (List Elem)) → list_all (same_shape s) a ≡ true → list_all (same_shape (items_at s positions)) (map (λ tuple. items_at tuple positions) a) ≡ true
all_items_shape s positions [] all = refl
all_items_shape s positions (x ∷ a) all =
    let parts = and_parts (same_shape s x) (list_all (same_shape s) a) all in
    and_from (same_shape (items_at s positions) (items_at x positions)) (list_all (same_shape (items_at s positions)) (map (λ tuple. items_at tuple positions) a)) (items_shape s x positions parts.0) (all_items_shape s positions a parts.1)

all_new : (ys : List (List Elem)) → filter (λ z. not (has [] z)) ys ≡ ys
all_new [] = refl
all_new (y ∷ ys) = ap (λ (rest : List (List Elem)). y ∷ rest) (all_new ys)

pub proj_made : (a : List (List Elem)) (positions : List ℕ) → IsSet a → goes (λ made tuple. inserted made (items_at tuple positions)) [] a ≡ Ok (projected a positions)
unfolding projected
proj_made a positions set =
    let s = shape_of a set.one_shape in
    let picked = map (λ tuple. items_at tuple positions) a in
    let few = set.few in
    goes_map inserted (λ tuple. items_at tuple positions) [] a
    ∙ joined_firsts (items_at s.0 positions) [] picked refl (all_items_shape s.0 positions a s.1) (omega (arith, length-map a (λ tuple. items_at tuple positions)))
    ∙ ap (λ ys. Ok (firsts ys)) (all_new picked)

-- inserting tuples of one shape gives the set with the first of equal ones among those that aren't there, if it isn't too large
joined_sized : (shape : List Elem) (xs ys : List (List Elem)) → list_all (same_shape shape) xs ≡ true → list_all (same_shape shape) ys ≡ true → length xs ≤ most → goes inserted xs ys ≡ sized (xs ++ firsts (filter (λ z. not (has xs z)) ys))
unfolding firsts
joined_sized shape xs [] front back few = goes-nil inserted xs ∙ sym (sized_few xs few) ∙ ap sized (sym (append-nil xs))
joined_sized shape xs (y ∷ ys) front back few =
    let parts = and_parts (same_shape shape y) (list_all (same_shape shape) ys) back in
    let fitting = fits_shape shape xs y front parts.0 in
    let others = filter (λ z. not (has xs z)) ys in
    (elim (has xs y) as (λ found. has xs y ≡ found → goes inserted xs (y ∷ ys) ≡ sized (xs ++ firsts (cond (not found) (y ∷ others) others))) [
      | true ↦ λ e. goes_after xs xs ys y (inserted_there xs y fitting e) ∙ joined_sized shape xs ys front parts.1 few
      | false ↦ λ e.
          let more = xs ++ y ∷ [] in
          elim (cases_lt most (length more)) [
            | inr within ↦
                let step = inserted_new xs y fitting e ∙ sized_few more within in
                let all : list_all (same_shape shape) more ≡ true = all_of_append (same_shape shape) xs (y ∷ []) front (and_from (same_shape shape y) true parts.0 refl) in
                let rest = joined_sized shape more ys all parts.1 within in
                goes_after xs more ys y step ∙ rest ∙ ap sized (append_one xs y (firsts (filter (λ z. not (has more z)) ys)) ∙ ap (λ (tail : List (List Elem)). xs ++ y ∷ tail) (firsts_after xs ys y))
            | inl past ↦
                let before : most < length more = past in
                let left = filter (λ z. not (same_tuple y z)) (firsts others) in
                goes-cons inserted xs y ys
                ∙ ap (λ (a : Result (List (List Elem)) Kind). a >>= λ next. goes inserted next ys) (inserted_new xs y fitting e ∙ sized_many more past)
                ∙ sym (sized_many (xs ++ y ∷ left) (omega (arith, length-append xs (y ∷ []), length-append xs (y ∷ left))))
          ]
    ]) refl

-- inserting the tuples of a list of one shape gives the set that it lists
pub listed_made : (tuples : List (List Elem)) → has_one_shape tuples ≡ true → goes inserted [] tuples ≡ set_listed tuples
unfolding set_listed
listed_made tuples one =
    let s = shape_of tuples one in
    joined_sized s.0 [] tuples refl s.1 (omega arith) ∙ ap (λ ys. sized (firsts ys)) (all_new tuples) ∙ sym (ap (λ b. cond b (sized (firsts tuples)) (Err WrongKind)) one)

pub listed_unlike : (tuples : List (List Elem)) → has_one_shape tuples ≡ false → set_listed tuples ≡ Err WrongKind
unfolding set_listed
listed_unlike tuples unlike = rw unlike refl
