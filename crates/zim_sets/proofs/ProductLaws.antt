-- The product of two sets is a list without repeats and of one shape, as long as the product of their lengths.
use Rattle.std.proofs.Common.{◌≡◌, ◌≤◌, ◌*◌, ◌+◌, Bool, true, false, ◌&&◌, List, [], ◌∷◌, ◌++◌, length, map, Ok, Err, refl, sym, ap, ◌∙◌, arith, length-append, append-nil, ◌<◌, ℕ, take, get_or}
use Rattle.std.proofs.lemmas.Bool.{and_parts, and_from}
use Rattle.std.proofs.lemmas.Grind.{flat_map-append}
use Rattle.std.proofs.lemmas.List.{length-map, take_more}
use Rattle.std.specs.Cmp.Lexicographic.{pointwise, as_long}
use Rattle.std.specs.List.{AllByRecursion, IsDistinct, list_all, list_any}
use Rattle.zim_sets.proofs.DistinctLemmas.{all_append, distinct_append, or_false_from}
use Rattle.zim_sets.proofs.SetLemmas.{common_shape, one_shape_from, shape_moves, all_of_append, sized_few, sized_many}
use Rattle.zim_sets.proofs.ShapeLemmas.{tuples_equivalent}
use Rattle.zim_sets.specs.Products.{crossed, cross_of}
use Rattle.zim_sets.specs.Sets.{same_kind, same_shape, same_tuple, has_one_shape, are_alike, most, IsSet}
use Rattle.zim_fault.specs.declared.kinds.Kind.TheVariants.{SetSize}
use Rattle.zim_tuples.specs.Elements.{same_element}
use Rattle.zim_tuples.specs.declared.elements.Elem.{Elem}

and_assoc : (p q r : Bool) → (p && (q && r)) ≡ ((p && q) && r)
and_assoc true q r = refl
and_assoc false q r = refl

-- two joined lists agree where their parts do
pub pointwise-append : {X : Type 0} (e : X → X → Bool) (s t more others : List X) → length s ≡ length t → pointwise e (s ++ more) (t ++ others) ≡ (pointwise e s t && pointwise e more others)
pointwise-append e [] [] more others long = refl
pointwise-append e [] (y ∷ t) more others long = absurd (omega arith)
pointwise-append e (x ∷ s) [] more others long = absurd (omega arith)
pointwise-append e (x ∷ s) (y ∷ t) more others long =
    ap (λ rest. e x y && rest) (pointwise-append e s t more others (omega arith)) ∙ and_assoc (e x y) (pointwise e s t) (pointwise e more others)

pub shapes_joined : (s t more others : List Elem) → same_shape s t ≡ true → same_shape more others ≡ true → same_shape (s ++ more) (t ++ others) ≡ true
shapes_joined s t more others front back =
    pointwise-append same_kind s t more others (as_long same_kind s t front) ∙ and_from (same_shape s t) (same_shape more others) front back

pub length-crossed : (a b : List (List Elem)) → length (crossed a b) ≡ length a * length b
length-crossed [] b = omega arith
length-crossed (x ∷ a) b =
    let rest = length-crossed a b in
    omega (arith, length-append (map (λ other. x ++ other) b) (crossed a b), length-map b (λ other. x ++ other))

row_shape : (s t x : List Elem) (b : List (List Elem)) → same_shape s x ≡ true → list_all (same_shape t) b ≡ true → list_all (same_shape (s ++ t)) (map (λ other. x ++ other) b) ≡ true
row_shape s t x [] here all = refl
row_shape s t x (y ∷ b) here all =
    let parts = and_parts (same_shape t y) (list_all (same_shape t) b) all in
    and_from (same_shape (s ++ t) (x ++ y)) (list_all (same_shape (s ++ t)) (map (λ other. x ++ other) b)) (shapes_joined s x t y here parts.0) (row_shape s t x b here parts.1)

pub crossed_shape : (s t : List Elem) (a b : List (List Elem)) → list_all (same_shape s) a ≡ true → list_all (same_shape t) b ≡ true → list_all (same_shape (s ++ t)) (crossed a b) ≡ true
crossed_shape s t [] b front back = refl
crossed_shape s t (x ∷ a) b front back =
    let parts = and_parts (same_shape s x) (list_all (same_shape s) a) front in
    all_of_append (same_shape (s ++ t)) (map (λ other. x ++ other) b) (crossed a b) (row_shape s t x b parts.0 back) (crossed_shape s t a b parts.1 back)

row_apart : (x y : List Elem) (b : List (List Elem)) → AllByRecursion (λ z. same_tuple y z ≡ false) b → AllByRecursion (λ z. same_tuple (x ++ y) z ≡ false) (map (λ other. x ++ other) b)
row_apart x y [] apart = tt
row_apart x y (z ∷ b) apart = (
  pointwise-append same_element x x y z refl ∙ (λ i. tuples_equivalent.refl x i && apart.0 i),
  row_apart x y b apart.1,
)

row_distinct : (x : List Elem) (b : List (List Elem)) → IsDistinct same_tuple b → IsDistinct same_tuple (map (λ other. x ++ other) b)
unfolding IsDistinct
row_distinct x [] distinct = tt
row_distinct x (y ∷ b) distinct = (row_apart x y b distinct.0, row_distinct x b distinct.1)

none_joined : (x z t : List Elem) (b : List (List Elem)) → length z ≡ length x → same_tuple z x ≡ false → list_any (same_tuple (z ++ t)) (map (λ other. x ++ other) b) ≡ false
none_joined x z t [] long other = refl
none_joined x z t (y ∷ b) long other =
    or_false_from (same_tuple (z ++ t) (x ++ y)) (list_any (same_tuple (z ++ t)) (map (λ other. x ++ other) b)) (pointwise-append same_element z x t y long ∙ (λ i. other i && same_tuple t y)) (none_joined x z t b long other)

row_none : (x z : List Elem) (b c : List (List Elem)) → length z ≡ length x → same_tuple z x ≡ false → AllByRecursion (λ w. list_any (same_tuple w) (map (λ other. x ++ other) b) ≡ false) (map (λ other. z ++ other) c)
row_none x z b [] long other = tt
row_none x z b (t ∷ c) long other = (none_joined x z t b long other, row_none x z b c long other)

rows_none : (x : List Elem) (a b c : List (List Elem)) → AllByRecursion (λ z. same_tuple x z ≡ false) a → list_all (same_shape x) a ≡ true → AllByRecursion (λ w. list_any (same_tuple w) (map (λ other. x ++ other) b) ≡ false) (crossed a c)
rows_none x [] b c apart shape = tt
rows_none x (z ∷ a) b c apart shape =
    let parts = and_parts (same_shape x z) (list_all (same_shape x) a) shape in
    all_append (λ w. list_any (same_tuple w) (map (λ other. x ++ other) b) ≡ false) (map (λ other. z ++ other) c) (crossed a c) (row_none x z b c (sym (as_long same_kind x z parts.0)) (tuples_equivalent.symm z x ∙ apart.0)) (rows_none x a b c apart.1 parts.1)

pub crossed_distinct : (s : List Elem) (a b : List (List Elem)) → list_all (same_shape s) a ≡ true → IsDistinct same_tuple a → IsDistinct same_tuple b → IsDistinct same_tuple (crossed a b)
unfolding IsDistinct
crossed_distinct s [] b shape front back = tt
crossed_distinct s (x ∷ a) b shape front back =
    let parts = and_parts (same_shape s x) (list_all (same_shape s) a) shape in
    distinct_append tuples_equivalent (map (λ other. x ++ other) b) (crossed a b) (row_distinct x b back) (crossed_distinct s a b parts.1 front.1 back) (rows_none x a b b front.0 (sym (shape_moves s x a parts.0) ∙ parts.1))

alike_none : (a : List (List Elem)) → are_alike a [] ≡ true
alike_none [] = refl
alike_none (x ∷ a) = refl

pub shape_of : (a : List (List Elem)) → has_one_shape a ≡ true → (shape : List Elem) × (list_all (same_shape shape) a ≡ true)
shape_of a one = let both = common_shape a [] one refl (alike_none a) in (both.0, both.1)

-- a product that isn't too long is a set
pub crossed_set : (a b : List (List Elem)) → IsSet a → IsSet b → length a * length b ≤ most → IsSet (crossed a b)
crossed_set a b first second few =
    let s = shape_of a first.one_shape in
    let t = shape_of b second.one_shape in
    record {
      few = rw (length-crossed a b) few;
      one_shape = one_shape_from (s.0 ++ t.0) (crossed a b) (crossed_shape s.0 t.0 a b s.1 t.1);
      distinct = crossed_distinct s.0 a b s.1 first.distinct second.distinct;
    }

pub cross_few : (a b : List (List Elem)) → length a * length b ≤ most → cross_of a b ≡ Ok (crossed a b)
unfolding cross_of
cross_few a b few = sized_few (crossed a b) (rw (length-crossed a b) few)

pub cross_many : (a b : List (List Elem)) → most < length a * length b → cross_of a b ≡ Err SetSize
unfolding cross_of
cross_many a b many = sized_many (crossed a b) (rw (length-crossed a b) many)

-- the product with one tuple more of the first list
pub crossed_more : (a b : List (List Elem)) (i : ℕ) (x : List Elem) → i < length a → get_or a i x ≡ x → crossed (take (i + 1) a) b ≡ crossed (take i a) b ++ map (λ other. x ++ other) b
crossed_more a b i x within here =
    let row : List Elem → List (List Elem) = λ tuple. map (λ other. tuple ++ other) b in
    let cut : take (i + 1) a ≡ take i a ++ x ∷ [] = take_more a i x within ∙ ap (λ y. take i a ++ y ∷ []) here in
    ap (λ front. crossed front b) cut ∙ flat_map-append row (take i a) (x ∷ []) ∙ ap (λ last. crossed (take i a) b ++ last) (append-nil (row x))
