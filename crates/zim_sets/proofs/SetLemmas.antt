-- Lists of tuples of one shape, and when such a list is a set.
use Rattle.std.proofs.Common.{◌≡◌, ◌≤◌, ◌<◌, Bool, true, false, ◌&&◌, cond, List, [], ◌∷◌, ◌++◌, length, Ok, Err, refl, sym, ◌∙◌, arith, length-append}
use Rattle.std.proofs.lemmas.Bool.{and_parts, and_from, le-leb, lt-leb}
use Rattle.std.proofs.lemmas.List.Folds.{list_all-append}
use Rattle.std.specs.List.{filter, list_all, IsDistinct}
use Rattle.zim_sets.proofs.DistinctLemmas.{distinct_append}
use Rattle.zim_sets.proofs.ShapeLemmas.{shapes_equivalent, tuples_equivalent}
use Rattle.zim_sets.specs.Insertion.{sized, inserted}
use Rattle.zim_sets.specs.Sets.{same_shape, same_tuple, has_one_shape, are_alike, fits, has, most, IsSet}
use Rattle.zim_fault.specs.declared.kinds.Kind.TheVariants.{WrongKind, SetSize}
use Rattle.zim_tuples.specs.declared.elements.Elem.{Elem}

pub empty_is_set : IsSet []
unfolding IsDistinct
empty_is_set = record { few = omega arith; one_shape = refl; distinct = tt }

-- tuples of the shape of one tuple are of the shape of each that has its shape
pub shape_moves : (s t : List Elem) (xs : List (List Elem)) → same_shape s t ≡ true → list_all (same_shape s) xs ≡ list_all (same_shape t) xs
shape_moves s t [] e = refl
shape_moves s t (x ∷ xs) e = λ i. shapes_equivalent.congr s t x e i && shape_moves s t xs e i

pub one_shape_from : (shape : List Elem) (xs : List (List Elem)) → list_all (same_shape shape) xs ≡ true → has_one_shape xs ≡ true
one_shape_from shape [] all = refl
one_shape_from shape (x ∷ xs) all =
    let parts = and_parts (same_shape shape x) (list_all (same_shape shape) xs) all in
    sym (shape_moves shape x xs parts.0) ∙ parts.1

pub all_from_parts : (shape first : List Elem) (xs : List (List Elem)) → same_shape shape first ≡ true → list_all (same_shape shape) xs ≡ true → list_all (same_shape shape) (first ∷ xs) ≡ true
all_from_parts shape first xs here rest = and_from (same_shape shape first) (list_all (same_shape shape) xs) here rest

-- two lists that are alike have one shape in common
pub common_shape : (xs ys : List (List Elem)) → has_one_shape xs ≡ true → has_one_shape ys ≡ true → are_alike xs ys ≡ true → (shape : List Elem) × (list_all (same_shape shape) xs ≡ true) × (list_all (same_shape shape) ys ≡ true)
common_shape [] [] front back alike = ([], refl, refl)
common_shape [] (y ∷ ys) front back alike = (y, refl, all_from_parts y y ys (shapes_equivalent.refl y) back)
common_shape (x ∷ xs) [] front back alike = (x, all_from_parts x x xs (shapes_equivalent.refl x) front, refl)
common_shape (x ∷ xs) (y ∷ ys) front back alike =
    (x, all_from_parts x x xs (shapes_equivalent.refl x) front, all_from_parts x y ys alike (shape_moves x y ys alike ∙ back))

pub all_of_filter : (p test : List Elem → Bool) (xs : List (List Elem)) → list_all p xs ≡ true → list_all p (filter test xs) ≡ true
all_of_filter p test [] all = refl
all_of_filter p test (x ∷ xs) all =
    let parts = and_parts (p x) (list_all p xs) all in
    elim (test x) as (λ passes. list_all p (cond passes (x ∷ filter test xs) (filter test xs)) ≡ true) [ true ↦ and_from (p x) (list_all p (filter test xs)) parts.0 (all_of_filter p test xs parts.1) | false ↦ all_of_filter p test xs parts.1 ]

pub all_of_append : (p : List Elem → Bool) (xs ys : List (List Elem)) → list_all p xs ≡ true → list_all p ys ≡ true → list_all p (xs ++ ys) ≡ true
all_of_append p xs ys front back = list_all-append p xs ys ∙ and_from (list_all p xs) (list_all p ys) front back

pub passes_at : (p : List Elem → Bool) (xs : List (List Elem)) (y : List Elem) (ys : List (List Elem)) → list_all p (xs ++ y ∷ ys) ≡ true → p y ≡ true
passes_at p [] y ys all = (and_parts (p y) (list_all p ys) all).0
passes_at p (x ∷ xs) y ys all = passes_at p xs y ys (and_parts (p x) (list_all p (xs ++ y ∷ ys)) all).1

-- in a list of one shape a tuple fits those before it
pub fits_here : (xs : List (List Elem)) (y : List Elem) (ys : List (List Elem)) → has_one_shape (xs ++ y ∷ ys) ≡ true → fits xs y ≡ true
fits_here [] y ys one = refl
fits_here (x ∷ xs) y ys one = passes_at (same_shape x) xs y ys one

pub sized_few : (xs : List (List Elem)) → length xs ≤ most → sized xs ≡ Ok xs
unfolding sized
sized_few xs few = rw (le-leb (length xs) most few) refl

pub sized_many : (xs : List (List Elem)) → most < length xs → sized xs ≡ Err SetSize
unfolding sized
sized_many xs many = rw (lt-leb (length xs) most many) refl

pub inserted_new : (xs : List (List Elem)) (y : List Elem) → fits xs y ≡ true → has xs y ≡ false → inserted xs y ≡ sized (xs ++ y ∷ [])
unfolding inserted
inserted_new xs y fitting new = rw (fitting, new) refl

pub inserted_there : (xs : List (List Elem)) (y : List Elem) → fits xs y ≡ true → has xs y ≡ true → inserted xs y ≡ Ok xs
unfolding inserted
inserted_there xs y fitting there = rw (fitting, there) refl

pub inserted_unfit : (xs : List (List Elem)) (y : List Elem) → fits xs y ≡ false → inserted xs y ≡ Err WrongKind
unfolding inserted
inserted_unfit xs y unfit = rw unfit refl

pub inserted_at_end : (xs : List (List Elem)) (y : List Elem) → fits xs y ≡ true → has xs y ≡ false → length xs < most → inserted xs y ≡ Ok (xs ++ y ∷ [])
inserted_at_end xs y fitting new few = inserted_new xs y fitting new ∙ sized_few (xs ++ y ∷ []) (rw length-append (omega arith))

pub inserted_past : (xs : List (List Elem)) (y : List Elem) → fits xs y ≡ true → has xs y ≡ false → most ≤ length xs → inserted xs y ≡ Err SetSize
inserted_past xs y fitting new many = inserted_new xs y fitting new ∙ sized_many (xs ++ y ∷ []) (rw length-append (omega arith))

pub one_shape_more : (xs : List (List Elem)) (y : List Elem) → has_one_shape xs ≡ true → fits xs y ≡ true → has_one_shape (xs ++ y ∷ []) ≡ true
one_shape_more [] y one fitting = refl
one_shape_more (x ∷ xs) y one fitting = all_of_append (same_shape x) xs (y ∷ []) one (and_from (same_shape x y) true fitting refl)

pub distinct_more : (xs : List (List Elem)) (y : List Elem) → IsDistinct same_tuple xs → has xs y ≡ false → IsDistinct same_tuple (xs ++ y ∷ [])
unfolding IsDistinct
distinct_more xs y distinct new = distinct_append tuples_equivalent xs (y ∷ []) distinct (tt, tt) (new, tt)

-- a set with a new tuple that fits is a set
pub set_with_more : (xs : List (List Elem)) (y : List Elem) → IsSet xs → fits xs y ≡ true → has xs y ≡ false → length xs < most → IsSet (xs ++ y ∷ [])
set_with_more xs y set fitting new few = record {
  few = rw length-append (omega arith);
  one_shape = one_shape_more xs y set.one_shape fitting;
  distinct = distinct_more xs y set.distinct new;
}
