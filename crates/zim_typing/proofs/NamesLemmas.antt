-- Names that are bound around a place, listed in two ways: each once, and as often as an index has it.
use Rattle.std.proofs.Common.{ℕ, suc, ◌≡◌, Bool, true, false, ◌||◌, List, [], ◌∷◌, ◌++◌, length, filter_map, Option, Some, None, position, nat_eq, cond, nat_lt, length-append, if◌then◌else◌, ◌+◌, refl, sym, ap, ◌∙◌}
use Rattle.std.proofs.lemmas.Bool.{false≢true}
use Rattle.std.proofs.lemmas.List.Elements.{filter_map-append}
use Rattle.std.proofs.lemmas.List.Folds.{list_any-append, list_any_at}
use Rattle.std.proofs.lemmas.List.Quantifiers.{position-Some}
use Rattle.std.specs.List.{list_any, position_or_len}
use Rattle.std.specs.Cmp.Lexicographic.{pointwise}
use Rattle.zim_tree.specs.declared.expr.Expr.{Expr}
use Rattle.zim_typed.specs.Scope.{Text, Names, Scope, is_local, is_known, bare, indexed, called}
use Rattle.zim_typed.specs.Pattern.{bare_name, bound_name, if_unknown, binds, binding}
use Rattle.zim_static.proofs.AroundLaws.{same_text}

-- ---- the same names

-- the same names are bound
abbrev pub Same : Names → Names → Type 0
Same names others = (name : Text) → is_local names name ≡ is_local others name

-- a name stands for the same
pub same_bare : (scope : Scope) (names others : Names) → Same names others → (name : Text) → bare scope names name ≡ bare scope others name
same_bare scope names others same name = rw (same name) refl

pub same_indexed : (scope : Scope) (names others : Names) → Same names others → (name : Text) → indexed scope names name ≡ indexed scope others name
same_indexed scope names others same name = rw (same name) refl

pub same_called : (scope : Scope) (names others : Names) → Same names others → (count : ℕ) (name : Text) → called count scope names name ≡ called count scope others name
same_called scope names others same count name = rw (same name) refl

-- an index binds the same
pub same_bound : (scope : Scope) (names others : Names) → Same names others → (item : Expr) → bound_name scope names item ≡ bound_name scope others item
same_bound scope names others same item = at_bare (bare_name item)
  where
    at_bare : (bare : Option Text) → if_unknown scope names bare ≡ if_unknown scope others bare
    at_bare None = refl
    at_bare (Some name) = rw (same name) refl

-- behind the same names others may be bound
pub same_behind : (bound bounds names others : Names) → Same bound bounds → Same names others → Same (bound ++ names) (bounds ++ others)
same_behind bound bounds names others first second name =
    list_any-append (pointwise nat_eq name) bound names ∙ (λ i. first name i || second name i) ∙ sym (list_any-append (pointwise nat_eq name) bounds others)

-- ---- lists that pass a test first at the same position

-- two lists as long that agree on a test up to the first member that passes it
abbrev pub SameUntil : {A : Type 0} → (A → Bool) → List A → List A → Type 0
SameUntil test [] [] = Unit {0}
SameUntil test [] (y ∷ ys) = ⊥
SameUntil test (x ∷ xs) [] = ⊥
SameUntil test (x ∷ xs) (y ∷ ys) = (test x ≡ test y) × (length xs ≡ length ys) × (test x ≡ false → SameUntil test xs ys)

pub until_length : {A : Type 0} (test : A → Bool) (xs ys : List A) → SameUntil test xs ys → length xs ≡ length ys
until_length test [] [] h = refl
until_length test [] (y ∷ ys) h = absurd h
until_length test (x ∷ xs) [] h = absurd h
until_length test (x ∷ xs) (y ∷ ys) h = ap suc h.1

until_first : {A : Type 0} (test : A → Bool) (xs ys : List A) → SameUntil test xs ys → position_or_len test xs ≡ position_or_len test ys
until_first test [] [] h = refl
until_first test [] (y ∷ ys) h = absurd h
until_first test (x ∷ xs) [] h = absurd h
until_first test (x ∷ xs) (y ∷ ys) h = at_test (λ fails. until_first test xs ys (h.2 fails)) (test x) refl (test y) refl
  where
    at_test : (test x ≡ false → position_or_len test xs ≡ position_or_len test ys) → (b : Bool) → test x ≡ b → (c : Bool) → test y ≡ c → position_or_len test (x ∷ xs) ≡ position_or_len test (y ∷ ys)
    at_test rest true is true also = rw (is, also) refl
    at_test rest true is false also = absurd (false≢true (sym also ∙ sym h.0 ∙ is))
    at_test rest false is true also = absurd (false≢true (sym is ∙ h.0 ∙ also))
    at_test rest false is false also = rw (is, also) (ap (λ (n : ℕ). 1 + n) (rest is))

pub until_position : {A : Type 0} (test : A → Bool) (xs ys : List A) → SameUntil test xs ys → position test xs ≡ position test ys
until_position test xs ys h = λ i. cond (nat_lt (until_first test xs ys h i) (until_length test xs ys h i)) (Some (until_first test xs ys h i)) None

more_long : {A : Type 0} (xs ys : List A) (x y : A) → length xs ≡ length ys → length (xs ++ x ∷ []) ≡ length (ys ++ y ∷ [])
more_long xs ys x y same = length-append xs (x ∷ []) ∙ ap (λ (n : ℕ). n + 1) same ∙ sym (length-append ys (y ∷ []))

-- one more member each, on which the test agrees where none passed before
pub until_more : {A : Type 0} (test : A → Bool) (xs ys : List A) (x y : A) → SameUntil test xs ys → (list_any test xs ≡ false → test x ≡ test y) → SameUntil test (xs ++ x ∷ []) (ys ++ y ∷ [])
until_more test [] [] x y h agree = (agree refl, refl, λ fails. tt)
until_more test [] (z ∷ ys) x y h agree = absurd h
until_more test (w ∷ xs) [] x y h agree = absurd h
until_more test (w ∷ xs) (z ∷ ys) x y h agree =
    (h.0, more_long xs ys x y h.1, λ fails. until_more test xs ys x y (h.2 fails) (λ none. agree ((λ i. fails i || list_any test xs) ∙ none)))

-- a position at which a test passes
pub passes_at : {A : Type 0} (test : A → Bool) (xs : List A) (i : ℕ) → position test xs ≡ Some i → list_any test xs ≡ true
passes_at test [] i h = cc
passes_at test (x ∷ xs) i h = let found = position-Some test (x ∷ xs) i x h in list_any_at test (x ∷ xs) i x found.0 found.1

-- ---- what an index's tuple binds

-- the names that a list of components gives
abbrev pub named_in : List (Option Text) → Names
named_in components = filter_map (λ x. x) components

-- of a name that isn't known, the first component is found at the same position among bare names and among components that bind each name once
abbrev pub Agree : Scope → Names → List (Option Text) → List (Option Text) → Type 0
Agree scope names bares before = (name : Text) → is_known scope names name ≡ false → SameUntil (binds name) bares before

-- the names of some list are given by components that bind each name once
abbrev pub Gives : Names → List (Option Text) → Type 0
Gives known before = (name : Text) → is_local known name ≡ is_local (named_in before) name

pub some_bare : (scope : Scope) (names : Names) (item : Expr) (name : Text) → bound_name scope names item ≡ Some name → (bare_name item ≡ Some name) × (is_known scope names name ≡ false)
some_bare scope names item name h = at_bare (bare_name item) refl h
  where
    at_known : (other : Text) (known : Bool) → bare_name item ≡ Some other → is_known scope names other ≡ known → (if known then None else Some other) ≡ Some name → (bare_name item ≡ Some name) × (is_known scope names name ≡ false)
    at_known other true bare is h = cc
    at_known other false bare is h = let same : other ≡ name = cc in (bare ∙ ap (λ (x : Text). Some x) same, sym (ap (is_known scope names) same) ∙ is)

    at_bare : (bare : Option Text) → bare_name item ≡ bare → if_unknown scope names bare ≡ Some name → (bare_name item ≡ Some name) × (is_known scope names name ≡ false)
    at_bare None is h = cc
    at_bare (Some other) is h = at_known other (is_known scope names other) is refl h

-- a component that binds nothing is no name that isn't known
none_bare : (scope : Scope) (names : Names) (item : Expr) (name : Text) → bound_name scope names item ≡ None → is_known scope names name ≡ false → binds name (bare_name item) ≡ false
none_bare scope names item name h new = at_bare (bare_name item) refl h
  where
    at_same : (other : Text) (same : Bool) → pointwise nat_eq name other ≡ same → is_known scope names other ≡ true → pointwise nat_eq name other ≡ false
    at_same other true is known = absurd (false≢true (sym new ∙ ap (is_known scope names) (same_text name other is) ∙ known))
    at_same other false is known = is

    at_known : (other : Text) (known : Bool) → is_known scope names other ≡ known → (if known then None else Some other) ≡ None → pointwise nat_eq name other ≡ false
    at_known other true is h = at_same other (pointwise nat_eq name other) refl is
    at_known other false is h = cc

    at_bare : (bare : Option Text) → bare_name item ≡ bare → if_unknown scope names bare ≡ None → binds name (bare_name item) ≡ false
    at_bare None is h = rw is refl
    at_bare (Some other) is h = rw is (at_known other (is_known scope names other) refl h)

-- one more component
pub agree_fixed : (scope : Scope) (names : Names) (bares before : List (Option Text)) (item : Expr) → bound_name scope names item ≡ None → Agree scope names bares before → Agree scope names (bares ++ bare_name item ∷ []) (before ++ None ∷ [])
agree_fixed scope names bares before item h agree name new = until_more (binds name) bares before (bare_name item) None (agree name new) (λ none. none_bare scope names item name h new)

pub agree_free : (scope : Scope) (names : Names) (bares before : List (Option Text)) (item : Expr) (found : Text) → bound_name scope names item ≡ Some found → Agree scope names bares before →
    Agree scope names (bares ++ bare_name item ∷ []) (before ++ Some found ∷ [])
agree_free scope names bares before item found h agree name new =
    until_more (binds name) bares before (bare_name item) (Some found) (agree name new) (λ none. ap (binds name) (some_bare scope names item found h).0)

again_differs : (name found : Text) (bares : List (Option Text)) (i : ℕ) → position (binds found) bares ≡ Some i → list_any (binds name) bares ≡ false → (same : Bool) → pointwise nat_eq name found ≡ same → pointwise nat_eq name found ≡ false
again_differs name found bares i h none true is =
    absurd (false≢true (sym none ∙ ap (λ (x : Text). list_any (binds x) bares) (same_text name found is) ∙ passes_at (binds found) bares i h))
again_differs name found bares i h none false is = is

pub agree_again : (scope : Scope) (names : Names) (bares before : List (Option Text)) (item : Expr) (found : Text) (i : ℕ) → bound_name scope names item ≡ Some found → binding found before ≡ Some i → Agree scope names bares before →
    Agree scope names (bares ++ bare_name item ∷ []) (before ++ None ∷ [])
agree_again scope names bares before item found i h at agree name new =
    let bare = some_bare scope names item found h in
    until_more (binds name) bares before (bare_name item) None (agree name new)
    (λ none.
    ap (binds name) bare.0
    ∙ again_differs name found bares i (until_position (binds found) bares before (agree found bare.1) ∙ at) none (pointwise nat_eq name found) refl)

-- the position of a name that is bound is found among the bare names
pub agree_position : (scope : Scope) (names : Names) (bares before : List (Option Text)) (item : Expr) (found : Text) → bound_name scope names item ≡ Some found → Agree scope names bares before → binding found bares ≡ binding found before
agree_position scope names bares before item found h agree = until_position (binds found) bares before (agree found (some_bare scope names item found h).1)

local_more : (names : Names) (more : Names) (name : Text) → is_local (names ++ more) name ≡ (is_local names name || is_local more name)
local_more names more name = list_any-append (pointwise nat_eq name) names more

or_false : (b : Bool) → (b || false) ≡ b
or_false true = refl
or_false false = refl

pub gives_none : (known : Names) (before : List (Option Text)) → Gives known before → Gives known (before ++ None ∷ [])
gives_none known before gives name = gives name ∙ sym (or_false (is_local (named_in before) name)) ∙ sym (local_more (named_in before) [] name) ∙ ap (λ (all : Names). is_local all name) (sym (filter_map-append (λ x. x) before (None ∷ [])))

pub gives_free : (known : Names) (before : List (Option Text)) (found : Text) → Gives known before → Gives (known ++ found ∷ []) (before ++ Some found ∷ [])
gives_free known before found gives name =
    local_more known (found ∷ []) name ∙ ap (λ (b : Bool). b || is_local (found ∷ []) name) (gives name) ∙ sym (local_more (named_in before) (found ∷ []) name)
    ∙ ap (λ (all : Names). is_local all name) (sym (filter_map-append (λ x. x) before (Some found ∷ [])))

-- a component that binds a name gives it
given_by : (found : Text) (before : List (Option Text)) → list_any (binds found) before ≡ true → is_local (named_in before) found ≡ true
given_by found [] h = absurd (false≢true h)
given_by found (None ∷ before) h = given_by found before h
given_by found (Some other ∷ before) h = at_test (given_by found before) (pointwise nat_eq found other) refl
  where
    at_test : (list_any (binds found) before ≡ true → is_local (named_in before) found ≡ true) → (same : Bool) → pointwise nat_eq found other ≡ same → (pointwise nat_eq found other || is_local (named_in before) found) ≡ true
    at_test rest true is = rw is refl
    at_test rest false is = rw is (rest (sym (ap (λ (b : Bool). b || list_any (binds found) before) is) ∙ h))

pub gives_again : (known : Names) (before : List (Option Text)) (found : Text) (i : ℕ) → binding found before ≡ Some i → Gives known before → Gives (known ++ found ∷ []) (before ++ None ∷ [])
gives_again known before found i h gives name = local_more known (found ∷ []) name ∙ at_test (pointwise nat_eq name found) refl ∙ gives_none known before gives name
  where
    at_test : (same : Bool) → pointwise nat_eq name found ≡ same → (is_local known name || (pointwise nat_eq name found || false)) ≡ is_local known name
    at_test true is =
        let known_too : is_local known name ≡ true = gives name ∙ ap (is_local (named_in before)) (same_text name found is) ∙ given_by found before (passes_at (binds found) before i h) in
        rw known_too refl
    at_test false is = rw is (or_false (is_local known name))
