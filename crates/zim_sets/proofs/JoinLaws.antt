-- Inserting the tuples of a list one after another joins it to a set, where the join has one shape and no repeats;
-- and so the operators' loops give filters and joins of lists.
use Rattle.std.proofs.Common.{◌≡◌, ◌≤◌, ◌<◌, Bool, true, false, cond, not, List, [], ◌∷◌, ◌++◌, length, Result, Ok, Err, refl, sym, ap, subst, ◌∙◌, arith, length-append, append_assoc, append-nil, inl, inr}
use Rattle.std.proofs.lemmas.Bool.{not-true, cases_lt}
use Rattle.std.specs.Bool.{beq}
use Rattle.std.specs.List.{filter, IsDistinct}
use Rattle.zim_answer.proofs.BindLemmas.{bind_same}
use Rattle.zim_answer.proofs.GoesLemmas.{goes-nil, goes-cons}
use Rattle.zim_answer.specs.Answer.{◌>>=◌, goes}
use Rattle.zim_answer.specs.Gives.{Cause, NoMemory, Met, Never, Stops}
use Rattle.zim_sets.proofs.DistinctLemmas.{distinct_append, distinct_filter, filter_passes, all_weaker, none_of_filter, new_here}
use Rattle.zim_sets.proofs.SetLemmas.{common_shape, one_shape_from, all_of_filter, all_of_append, fits_here, inserted_new, sized_few, sized_many}
use Rattle.zim_sets.proofs.ShapeLemmas.{tuples_equivalent}
use Rattle.zim_sets.specs.Insertion.{sized, inserted, inserted_where}
use Rattle.zim_sets.specs.Operators.{those_in, those_not_in, of_alike, union_of, without_of, inter_of, symdiff_of}
use Rattle.zim_sets.specs.Sets.{same_shape, same_tuple, has_one_shape, are_alike, has, most, IsSet}
use Rattle.zim_fault.specs.declared.kinds.Kind.{Kind}
use Rattle.zim_fault.specs.declared.kinds.Kind.TheVariants.{WrongKind, SetSize}
use Rattle.zim_tuples.specs.declared.elements.Elem.{Elem}

pub append_one : (xs : List (List Elem)) (y : List Elem) (ys : List (List Elem)) → (xs ++ y ∷ []) ++ ys ≡ xs ++ y ∷ ys
append_one xs y ys = append_assoc xs (y ∷ []) ys

pub joined : (xs ys : List (List Elem)) → has_one_shape (xs ++ ys) ≡ true → IsDistinct same_tuple (xs ++ ys) → length xs ≤ most → goes inserted xs ys ≡ sized (xs ++ ys)
joined xs [] one distinct few = goes-nil inserted xs ∙ sym (sized_few xs few) ∙ ap sized (sym (append-nil xs))
joined xs (y ∷ ys) one distinct few =
    let step : inserted xs y ≡ sized (xs ++ y ∷ []) = inserted_new xs y (fits_here xs y ys one) (new_here tuples_equivalent xs y ys distinct) in
    let go : goes inserted xs (y ∷ ys) ≡ (sized (xs ++ y ∷ []) >>= λ next. goes inserted next ys) = goes-cons inserted xs y ys ∙ ap (λ (a : Result (List (List Elem)) Kind). a >>= λ next. goes inserted next ys) step in
    elim (cases_lt most (length (xs ++ y ∷ []))) [
      | inr within ↦
          go ∙ ap (λ (a : Result (List (List Elem)) Kind). a >>= λ next. goes inserted next ys) (sized_few (xs ++ y ∷ []) within)
          ∙ joined (xs ++ y ∷ []) ys (ap has_one_shape (append_one xs y ys) ∙ one) (subst (λ (zs : List (List Elem)). IsDistinct same_tuple zs) (sym (append_one xs y ys)) distinct) within
          ∙ ap sized (append_one xs y ys)
      | inl past ↦
          go ∙ ap (λ (a : Result (List (List Elem)) Kind). a >>= λ next. goes inserted next ys) (sized_many (xs ++ y ∷ []) past)
          ∙ sym (sized_many (xs ++ y ∷ ys) (let before : most < length (xs ++ y ∷ []) = past in omega (arith, length-append xs (y ∷ []), length-append xs (y ∷ ys))))
    ]

pub goes_where : (test : List Elem → Bool) (xs ys : List (List Elem)) → goes (inserted_where test) xs ys ≡ goes inserted xs (filter test ys)
unfolding inserted_where
goes_where test xs [] = goes-nil (inserted_where test) xs ∙ sym (goes-nil inserted xs)
goes_where test xs (y ∷ ys) =
    goes-cons (inserted_where test) xs y ys
    ∙ elim (test y) as (λ passes. (cond passes (inserted xs y) (Ok xs) >>= λ next. goes (inserted_where test) next ys) ≡ goes inserted xs (cond passes (y ∷ filter test ys) (filter test ys))) [
      | true ↦ bind_same (inserted xs y) _ _ (λ next. goes_where test next ys) ∙ sym (goes-cons inserted xs y (filter test ys))
      | false ↦ goes_where test xs ys
    ]

pub filter_same : (p q : List Elem → Bool) → ((x : List Elem) → p x ≡ q x) → (xs : List (List Elem)) → filter p xs ≡ filter q xs
filter_same p q same [] = refl
filter_same p q same (x ∷ xs) = λ i. cond (same x i) (x ∷ filter_same p q same xs i) (filter_same p q same xs i)

pub not_wanted : (found : Bool) → beq found false ≡ not found
not_wanted true = refl
not_wanted false = refl

pub is_wanted : (found : Bool) → beq found true ≡ found
is_wanted true = refl
is_wanted false = refl

-- the loop that keeps what isn't in the other set, or what is
pub goes_without : (other xs ys : List (List Elem)) → goes (inserted_where (λ t. beq (has other t) false)) xs ys ≡ goes inserted xs (those_not_in ys other)
goes_without other xs ys =
    goes_where (λ t. beq (has other t) false) xs ys ∙ ap (goes inserted xs) (filter_same _ _ (λ t. not_wanted (has other t)) ys)

pub goes_within : (other xs ys : List (List Elem)) → goes (inserted_where (λ t. beq (has other t) true)) xs ys ≡ goes inserted xs (those_in ys other)
goes_within other xs ys =
    goes_where (λ t. beq (has other t) true) xs ys ∙ ap (goes inserted xs) (filter_same _ _ (λ t. is_wanted (has other t)) ys)

pub alike_made : (a b made : List (List Elem)) → are_alike a b ≡ true → of_alike a b made ≡ sized made
unfolding of_alike
alike_made a b made alike = rw alike refl

pub unlike_made : (a b made : List (List Elem)) → are_alike a b ≡ false → of_alike a b made ≡ Err WrongKind
unfolding of_alike
unlike_made a b made unlike = rw unlike refl

-- the tuples of a set that a test picks, as a set of their own
pub picked : (a : List (List Elem)) (test : List Elem → Bool) → IsSet a → goes inserted [] (filter test a) ≡ sized (filter test a)
unfolding IsDistinct
picked a test set =
    let shape = common_shape [] a refl set.one_shape refl in
    joined [] (filter test a) (one_shape_from shape.0 (filter test a) (all_of_filter (same_shape shape.0) test a shape.2)) (distinct_filter same_tuple test a set.distinct) (omega arith)

-- one tuple alone is a set
pub one_is_set : (t : List Elem) → IsSet (t ∷ [])
unfolding IsDistinct
one_is_set t = record { few = omega arith; one_shape = refl; distinct = (tt, tt) }

-- some of the tuples of a set, in order, are a set
pub filter_is_set : (a : List (List Elem)) (test : List Elem → Bool) → IsSet a → IsSet (filter test a)
filter_is_set a test set =
    let shape = common_shape [] a refl set.one_shape refl in
    let fewer : length (filter test a) ≤ length a = filter_shorter a in
    record { few = omega (arith, set.few, fewer); one_shape = one_shape_from shape.0 (filter test a) (all_of_filter (same_shape shape.0) test a shape.2); distinct = distinct_filter same_tuple test a set.distinct }
  where
    filter_shorter : (xs : List (List Elem)) → length (filter test xs) ≤ length xs
    filter_shorter [] = omega arith
    filter_shorter (x ∷ xs) =
        let rest = filter_shorter xs in
        elim (test x) as (λ passes. length (cond passes (x ∷ filter test xs) (filter test xs)) ≤ length (x ∷ xs)) [ true ↦ omega (arith, rest) | false ↦ omega (arith, rest) ]

pub without_made : (a b : List (List Elem)) → IsSet a → are_alike a b ≡ true → goes (inserted_where (λ t. beq (has b t) false)) [] a ≡ without_of a b
unfolding without_of
without_made a b set alike = goes_without b [] a ∙ picked a (λ t. not (has b t)) set ∙ sym (alike_made a b (those_not_in a b) alike)

pub inter_made : (a b : List (List Elem)) → IsSet a → are_alike a b ≡ true → goes (inserted_where (λ t. beq (has b t) true)) [] a ≡ inter_of a b
unfolding inter_of
inter_made a b set alike = goes_within b [] a ∙ picked a (λ t. has b t) set ∙ sym (alike_made a b (those_in a b) alike)

pub union_made : (a b : List (List Elem)) → IsSet a → IsSet b → are_alike a b ≡ true → goes (inserted_where (λ t. beq (has a t) false)) a b ≡ union_of a b
unfolding union_of
union_made a b first second alike =
    let shape = common_shape a b first.one_shape second.one_shape alike in
    let new = those_not_in b a in
    let one : has_one_shape (a ++ new) ≡ true = one_shape_from shape.0 (a ++ new) (all_of_append (same_shape shape.0) a new shape.1 (all_of_filter (same_shape shape.0) _ b shape.2)) in
    let apart = all_weaker (λ t. not (has a t) ≡ true) (λ t. has a t ≡ false) (λ t. not-true (has a t)) new (filter_passes (λ t. not (has a t)) b) in
    let distinct = distinct_append tuples_equivalent a new first.distinct (distinct_filter same_tuple _ b second.distinct) apart in
    goes_without a a b ∙ joined a new one distinct first.few ∙ sym (alike_made a b (a ++ new) alike)

pub where_wanted : (test : List Elem → Bool) (xs : List (List Elem)) (y : List Elem) → test y ≡ true → inserted_where test xs y ≡ inserted xs y
unfolding inserted_where
where_wanted test xs y wanted = rw wanted refl

pub where_unwanted : (test : List Elem → Bool) (xs : List (List Elem)) (y : List Elem) → test y ≡ false → inserted_where test xs y ≡ Ok xs
unfolding inserted_where
where_unwanted test xs y unwanted = rw unwanted refl

pub sized_longer : (xs ys : List (List Elem)) (fault : Kind) → sized xs ≡ Err fault → sized (xs ++ ys) ≡ Err fault
sized_longer xs ys fault failed =
    elim (cases_lt most (length xs)) [
      | inl past ↦ sized_many (xs ++ ys) (let before : most < length xs = past in omega (arith, length-append xs ys)) ∙ sym (sized_many xs past) ∙ failed
      | inr within ↦ let whole : sized xs ≡ Ok xs = sized_few xs within in let clash : Ok xs ≡ Err fault = sym whole ∙ failed in cc
    ]

pub sized_gave : (xs ys : List (List Elem)) → sized xs ≡ Ok ys → (xs ≡ ys) × (length xs ≤ most)
sized_gave xs ys gave =
    elim (cases_lt most (length xs)) [
      | inl past ↦ let many : sized xs ≡ Err SetSize = sized_many xs past in let clash : Ok ys ≡ Err SetSize = sym gave ∙ many in absurd (let no : ⊥ = cc in no)
      | inr within ↦ let few : sized xs ≡ Ok xs = sized_few xs within in let same : Ok xs ≡ Ok ys = sym few ∙ gave in ((let is : xs ≡ ys = cc in is), within)
    ]

-- both halves of a symmetric difference
pub symdiff_rest : (a b made : List (List Elem)) → IsSet a → IsSet b → are_alike a b ≡ true → goes (inserted_where (λ t. beq (has b t) false)) [] a ≡ Ok made → goes (inserted_where (λ t. beq (has a t) false)) made b ≡ symdiff_of a b
unfolding symdiff_of
symdiff_rest a b made first second alike gave =
    let front = those_not_in a b in
    let back = those_not_in b a in
    let half = sized_gave front made (sym (picked a (λ t. not (has b t)) first) ∙ sym (goes_without b [] a) ∙ gave) in
    let shape = common_shape a b first.one_shape second.one_shape alike in
    let one : has_one_shape (front ++ back) ≡ true =
    one_shape_from shape.0 (front ++ back) (all_of_append (same_shape shape.0) front back (all_of_filter (same_shape shape.0) _ a shape.1) (all_of_filter (same_shape shape.0) _ b shape.2)) in
    let apart = all_weaker (λ t. not (has a t) ≡ true) (λ t. has front t ≡ false) (λ t new. none_of_filter (same_tuple t) (λ s. not (has b s)) a (not-true (has a t) new)) back (filter_passes (λ t. not (has a t)) b) in
    let distinct = distinct_append tuples_equivalent front back (distinct_filter same_tuple _ a first.distinct) (distinct_filter same_tuple _ b second.distinct) apart in
    goes_without a made b ∙ ap (λ (start : List (List Elem)). goes inserted start back) (sym half.0) ∙ joined front back one distinct half.1 ∙ sym (alike_made a b (front ++ back) alike)

pub symdiff_stopped : (a b : List (List Elem)) (fault : Kind) → IsSet a → are_alike a b ≡ true → goes (inserted_where (λ t. beq (has b t) false)) [] a ≡ Err fault → symdiff_of a b ≡ Err fault
unfolding symdiff_of
symdiff_stopped a b fault first alike failed =
    alike_made a b (those_not_in a b ++ those_not_in b a) alike
    ∙ sized_longer (those_not_in a b) (those_not_in b a) fault (sym (picked a (λ t. not (has b t)) first) ∙ sym (goes_without b [] a) ∙ failed)

pub symdiff_stops : (a b : List (List Elem)) (cause : Cause Kind) → IsSet a → are_alike a b ≡ true → Stops (goes (inserted_where (λ t. beq (has b t) false)) [] a) cause → Stops (symdiff_of a b) cause
symdiff_stops a b NoMemory first alike stops = tt
symdiff_stops a b (Met fault) first alike stops = symdiff_stopped a b fault first alike stops
symdiff_stops a b Never first alike stops = stops

pub unlike_union : (a b : List (List Elem)) → are_alike a b ≡ false → union_of a b ≡ Err WrongKind
unfolding union_of
unlike_union a b unlike = unlike_made a b _ unlike

pub unlike_without : (a b : List (List Elem)) → are_alike a b ≡ false → without_of a b ≡ Err WrongKind
unfolding without_of
unlike_without a b unlike = unlike_made a b _ unlike

pub unlike_inter : (a b : List (List Elem)) → are_alike a b ≡ false → inter_of a b ≡ Err WrongKind
unfolding inter_of
unlike_inter a b unlike = unlike_made a b _ unlike

pub unlike_symdiff : (a b : List (List Elem)) → are_alike a b ≡ false → symdiff_of a b ≡ Err WrongKind
unfolding symdiff_of
unlike_symdiff a b unlike = unlike_made a b _ unlike
