-- The choices of a set's tuples are sets, and a family's size decides whether it is one.
use Rattle.std.proofs.Common.{ℕ, ◌≡◌, ◌≤◌, ◌<◌, ◌+◌, ◌^◌, Bool, true, false, List, [], ◌∷◌, ◌++◌, length, Ok, Err, refl, ap, arith, nat_le, add-one}
use Rattle.std.proofs.Math.Nat.{pow-le-pow_right}
use Rattle.std.proofs.lemmas.Bool.{and_parts, and_from, le-leb, lt-leb, leb-true, leb-false}
use Rattle.std.specs.List.{AllByRecursion, IsDistinct, list_all}
use Rattle.zim_sets.proofs.ChoiceLaws.{choices_all, choices_distinct, choices_few, length-choices, length-choices_below}
use Rattle.zim_sets.proofs.ProductLaws.{shape_of}
use Rattle.zim_sets.proofs.SetLemmas.{one_shape_from}
use Rattle.zim_sets.specs.Choices.{choices, choices_below, ways}
use Rattle.zim_sets.specs.Families.{family_of, subsets_of, powerset_of}
use Rattle.zim_sets.specs.Sets.{same_shape, same_tuple, most, IsSet}
use Rattle.zim_fault.specs.declared.kinds.Kind.TheVariants.{SetSize}
use Rattle.zim_tuples.specs.declared.elements.Elem.{Elem}

all_from_tests : (test : List Elem → Bool) (xs : List (List Elem)) → list_all test xs ≡ true → AllByRecursion (λ x. test x ≡ true) xs
all_from_tests test [] all = tt
all_from_tests test (x ∷ xs) all =
    let parts = and_parts (test x) (list_all test xs) all in
    (parts.0, all_from_tests test xs parts.1)

tests_from_all : (test : List Elem → Bool) (xs : List (List Elem)) → AllByRecursion (λ x. test x ≡ true) xs → list_all test xs ≡ true
tests_from_all test [] all = refl
tests_from_all test (x ∷ xs) all = and_from (test x) (list_all test xs) all.0 (tests_from_all test xs all.1)

each_set : (shape : List Elem) (cs : List (List (List Elem))) (k : ℕ) → k ≤ most → AllByRecursion (λ c. length c ≤ k) cs → AllByRecursion (λ c. AllByRecursion (λ t. same_shape shape t ≡ true) c) cs → AllByRecursion (λ c. IsDistinct same_tuple c) cs → AllByRecursion IsSet cs
each_set shape [] k within few shapes distinct = tt
each_set shape (c ∷ cs) k within few shapes distinct = (
  record {
    few = (let short = few.0 in omega arith);
    one_shape = one_shape_from shape c (tests_from_all (same_shape shape) c shapes.0);
    distinct = distinct.0;
  },
  each_set shape cs k within few.1 shapes.1 distinct.1,
)

-- each choice of a set's tuples is a set
pub choices_sets : (n : ℕ) (a : List (List Elem)) → IsSet a → AllByRecursion IsSet (choices n a)
choices_sets n a set =
    let shape = shape_of a set.one_shape in
    each_set shape.0 (choices n a) (length a) set.few (choices_few n a) (choices_all (λ t. same_shape shape.0 t ≡ true) n a (all_from_tests (same_shape shape.0) a shape.1)) (choices_distinct same_tuple n a set.distinct)

family_few : (sets : List (List (List Elem))) → length sets ≤ most → family_of sets ≡ Ok sets
unfolding family_of
family_few sets few = rw (le-leb (length sets) most few) refl

family_many : (sets : List (List (List Elem))) → most < length sets → family_of sets ≡ Err SetSize
unfolding family_of
family_many sets many = rw (lt-leb (length sets) most many) refl

pub subsets_few : (a : List (List Elem)) (n : ℕ) → nat_le (ways (length a) n) most ≡ true → subsets_of a n ≡ Ok (choices n a)
unfolding subsets_of
subsets_few a n few =
    family_few (choices n a) (rw (length-choices n a) (leb-true (ways (length a) n) most few))

pub subsets_many : (a : List (List Elem)) (n : ℕ) → nat_le (ways (length a) n) most ≡ false → subsets_of a n ≡ Err SetSize
unfolding subsets_of
subsets_many a n many =
    family_many (choices n a) (rw (length-choices n a) (leb-false (ways (length a) n) most many))

size : (a : List (List Elem)) → length (choices_below (length a + 1) a) ≡ 2 ^ length a
size a = length-choices_below (length a + 1) a (omega arith)

pub powerset_few : (a : List (List Elem)) → length a ≤ 20 → powerset_of a ≡ Ok (choices_below (length a + 1) a)
unfolding powerset_of
powerset_few a few =
    let most_of_all : 2 ^ length a ≤ 2 ^ 20 = pow-le-pow_right {n = 2} (omega arith) few in
    family_few (choices_below (length a + 1) a) (rw (size a) most_of_all)

pub powerset_many : (a : List (List Elem)) → 20 < length a → powerset_of a ≡ Err SetSize
unfolding powerset_of
powerset_many a many =
    let at_least : 2 ^ 21 ≤ 2 ^ length a = pow-le-pow_right {n = 2} (omega arith) many in
    family_many (choices_below (length a + 1) a) (rw (size a) (omega arith))

pub below_next : (n : ℕ) (a : List (List Elem)) → choices_below (n + 1) a ≡ choices_below n a ++ choices n a
unfolding choices_below
below_next n a = ap (λ k. choices_below k a) (add-one n)

pub below_none : (a : List (List Elem)) → choices_below 0 a ≡ []
unfolding choices_below
below_none a = refl
