-- The place of a name among names.
use Rattle.std.proofs.Common.{◌≡◌, ℕ, zero, suc, ◌+◌, ◌<◌, ◌≤◌, Bool, true, false, cond, List, [], ◌∷◌, ◌++◌, length, get_or, Option, Some, None, refl, sym, ◌∙◌, ap, arith, nat_lt, nat_eq, Contains}
use Rattle.std.specs.Prelude.{if◌then◌else◌, option_map, position}
use Rattle.std.specs.List.{position_or_len}
use Rattle.std.specs.Cmp.Lexicographic.{pointwise, same_text, bytes_decides}
use Rattle.std.proofs.lemmas.Bool.{lt-ltb, le-ltb}
use borrow.Author.Tests.{ltb-true, ltb-false}
use Rattle.zim_rational.specs.Rational as Q
use Rattle.zim_plain.specs.Statements.{WrittenText}
use Rattle.zim_plain.specs.Meaning.{VariableValues, value_of}
use Rattle.zim_plain.specs.Systems.{place_of}

pub position-none : {X : Type 0} (p : X → Bool) (x : X) (xs : List X) → p x ≡ true → position p (x ∷ xs) ≡ Some 0
position-none p x xs e = let l : nat_lt 0 (length (x ∷ xs)) ≡ true = lt-ltb 0 (length (x ∷ xs)) (omega arith) in rw (e, l) refl

pub position-more : {X : Type 0} (p : X → Bool) (x : X) (xs : List X) → p x ≡ false → position p (x ∷ xs) ≡ option_map suc (position p xs)
position-more {X} p x xs e = rw e (by (nat_lt (position_or_len p xs) (length xs)) refl)
  where
    by : (b : Bool) → nat_lt (position_or_len p xs) (length xs) ≡ b → cond (nat_lt (1 + position_or_len p xs) (length (x ∷ xs))) (Some (1 + position_or_len p xs)) None ≡ option_map suc (cond (nat_lt (position_or_len p xs) (length xs)) (Some (position_or_len p xs)) None)
    by true t =
        let l : position_or_len p xs < length xs = ltb-true _ _ t in
        let m : nat_lt (1 + position_or_len p xs) (length (x ∷ xs)) ≡ true = lt-ltb _ _ (omega arith) in
        let s : 1 + position_or_len p xs ≡ suc (position_or_len p xs) = omega arith in
        rw (t, m) (ap Some s)
    by false t =
        let l : length xs ≤ position_or_len p xs = ltb-false _ _ t in
        let m : nat_lt (1 + position_or_len p xs) (length (x ∷ xs)) ≡ false = le-ltb _ _ (omega arith) in
        rw (t, m) refl

pub place_is_position : (names : List WrittenText) (name : WrittenText) → position (pointwise nat_eq name) names ≡ place_of names name
place_is_position [] name = refl
place_is_position (first ∷ names) name = by (pointwise nat_eq name first) refl (place_is_position names name)
  where
    by : (b : Bool) → pointwise nat_eq name first ≡ b → position (pointwise nat_eq name) names ≡ place_of names name → position (pointwise nat_eq name) (first ∷ names) ≡ (if b then Some 0 else option_map suc (place_of names name))
    by true e ih = position-none (pointwise nat_eq name) first names e
    by false e ih = position-more (pointwise nat_eq name) first names e ∙ ap (option_map suc) ih

-- a name stands at its place
pub at_place : (names : List WrittenText) (name : WrittenText) (p : ℕ) (d : WrittenText) → place_of names name ≡ Some p → (p < length names) × (get_or names p d ≡ name)
at_place [] name p d e = cc
at_place (first ∷ names) name p d e = by (pointwise nat_eq name first) refl e (place_of names name) refl (at_place names name)
  where
    by : (b : Bool) → pointwise nat_eq name first ≡ b → (if b then Some 0 else option_map suc (place_of names name)) ≡ Some p → (o : Option ℕ) → place_of names name ≡ o → ((q : ℕ) (d : WrittenText) → place_of names name ≡ Some q → (q < length names) × (get_or names q d ≡ name)) → (p < length (first ∷ names)) × (get_or (first ∷ names) p d ≡ name)
    by true t f o g ih =
        let z : p ≡ 0 = cc in
        let same : name ≡ first = same_text name first (sym t) in
        (omega arith, rw z (sym same))
    by false t f None g ih = let no : None ≡ Some p = sym (ap (option_map suc) g) ∙ f in cc
    by false t f (Some q) g ih =
        let s : Some (suc q) ≡ Some p = sym (ap (option_map suc) g) ∙ f in
        let where_is : p ≡ suc q = cc in
        let below = ih q d g in
        (omega (arith, below.0), rw where_is below.1)

none_in_tail : (b : Bool) (o : Option ℕ) → (if b then Some 0 else option_map suc o) ≡ None → o ≡ None
none_in_tail true o f = cc
none_in_tail false None f = refl
none_in_tail false (Some q) f = cc

nowhere : (names : List WrittenText) (name : WrittenText) (k : ℕ) → place_of names name ≡ None → k < length names → get_or names k name ≡ name → ⊥
nowhere [] name k e l at = omega arith
nowhere (first ∷ names) name zero e l at =
    let t : pointwise nat_eq name first ≡ true = (bytes_decides name first).1 (sym at) in
    let no : ◌≡◌ {A = Option ℕ} (Some 0) None = sym (ap (λ (b : Bool). if b then Some 0 else option_map suc (place_of names name)) t) ∙ e in
    cc
nowhere (first ∷ names) name (suc k) e l at = nowhere names name k (none_in_tail (pointwise nat_eq name first) (place_of names name) e) (omega arith) at

-- a name without a place is none of the names
pub no_place : (names : List WrittenText) (name : WrittenText) → place_of names name ≡ None → Contains names name → ⊥
no_place names name e h = nowhere names name h.0 e h.1 h.2

-- a name with a place is one of the names
pub place_contains : (names : List WrittenText) (name : WrittenText) (p : ℕ) → place_of names name ≡ Some p → Contains names name
place_contains names name p e = let at = at_place names name p name e in (p, at.0, at.1)

-- a name keeps its place where further names follow
pub place-append : (names more : List WrittenText) (name : WrittenText) (p : ℕ) → place_of names name ≡ Some p → place_of (names ++ more) name ≡ Some p
place-append [] more name p e = cc
place-append (first ∷ names) more name p e = by (pointwise nat_eq name first) e (place_of names name) refl (λ q g. place-append names more name q g)
  where
    by : (b : Bool) → (if b then Some 0 else option_map suc (place_of names name)) ≡ Some p → (o : Option ℕ) → place_of names name ≡ o → ((q : ℕ) → place_of names name ≡ Some q → place_of (names ++ more) name ≡ Some q) → (if b then Some 0 else option_map suc (place_of (names ++ more) name)) ≡ Some p
    by true f o g ih = f
    by false f None g ih = let no : None ≡ Some p = sym (ap (option_map suc) g) ∙ f in cc
    by false f (Some q) g ih = ap (option_map suc) (ih q g ∙ sym g) ∙ f

-- two names at one place are one
pub one_place : (names : List WrittenText) (a b : WrittenText) (p : ℕ) → place_of names a ≡ Some p → place_of names b ≡ Some p → a ≡ b
one_place names a b p e f = sym (at_place names a p a e).1 ∙ (at_place names b p a f).1

-- the fraction at a name's place is the name's value, also where further names follow
pub value_at_place : (names more : List WrittenText) (values : VariableValues) (name : WrittenText) (p : ℕ) → place_of names name ≡ Some p → length values ≡ length (names ++ more) → get_or values p Q.zero ≡ value_of (names ++ more) values name
value_at_place [] more values name p e l = cc
value_at_place (first ∷ names) more [] name p e l = absurd (omega arith)
value_at_place (first ∷ names) more (value ∷ values) name p e l = by (pointwise nat_eq name first) refl e (place_of names name) refl (λ q g. value_at_place names more values name q g (omega arith))
  where
    by : (b : Bool) → pointwise nat_eq name first ≡ b → (if b then Some 0 else option_map suc (place_of names name)) ≡ Some p → (o : Option ℕ) → place_of names name ≡ o → ((q : ℕ) → place_of names name ≡ Some q → get_or values q Q.zero ≡ value_of (names ++ more) values name) → get_or (value ∷ values) p Q.zero ≡ (if b then value else value_of (names ++ more) values name)
    by true t f o g ih = let z : p ≡ 0 = cc in rw z refl
    by false t f None g ih = let no : None ≡ Some p = sym (ap (option_map suc) g) ∙ f in cc
    by false t f (Some q) g ih =
        let s : Some (suc q) ≡ Some p = sym (ap (option_map suc) g) ∙ f in
        let where_is : p ≡ suc q = cc in
        rw where_is (ih q g)
