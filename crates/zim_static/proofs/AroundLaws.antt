-- The names that an index binds: those of its tuple's bare names that are neither declared nor bound around it.
use Rattle.std.proofs.Common.{ℕ, ◌≡◌, Bool, true, false, not, ◌&&◌, ◌||◌, List, [], ◌∷◌, ◌++◌, Option, None, Some, is_some, is_none, nat_eq, eqb-true, filter_map, map, Bor, rules, refl, sym, ap, ap₂, ◌∙◌}
use Rattle.std.proofs.lemmas.Bool.{false≢true}
use Rattle.std.specs.List.{list_any}
use Rattle.std.specs.Cmp.Lexicographic.{pointwise}
use Rattle.zim_fault.specs.declared.faults.Place.{Place}
use Rattle.zim_tree.specs.declared.expr.Expr.{Expr}
use Rattle.zim_typed.specs.declared.scope.Declared.{Declared}
use Rattle.zim_typed.specs.Scope.{Text, Names, Scope, is_local, kind_of_name, is_known}
use Rattle.zim_typed.specs.Pattern.{bare_name, binds, bound_name}
use Rattle.zim_static.specs.declared.around.Around.{Around, Nothing, Parameters, Index, the_lemmas}
use Rattle.zim_static.specs.Around.{names_in}

pub both : (a b : Bool) → (a && b) ≡ true → (a ≡ true) × (b ≡ true)
both true true h = (refl, refl)
both true false h = absurd (false≢true h)
both false b h = absurd (false≢true h)

-- texts that are equal byte by byte are equal
pub same_text : (xs ys : Text) → pointwise nat_eq xs ys ≡ true → xs ≡ ys
same_text [] [] h = refl
same_text [] (y ∷ ys) h = absurd (false≢true h)
same_text (x ∷ xs) [] h = absurd (false≢true h)
same_text (x ∷ xs) (y ∷ ys) h = let parts = both (nat_eq x y) (pointwise nat_eq xs ys) h in ap₂ (λ (a : ℕ) (rest : Text). a ∷ rest) (eqb-true x y parts.0) (same_text xs ys parts.1)

-- a component that is known adds no name
known_adds : (same local : Bool) (d : Option Declared) (others : Bool) → (same ≡ true → (local || is_some d) ≡ true) →
    (local || (is_none d && others)) ≡ (local || (is_none d && (same || others)))
known_adds same true d others h = refl
known_adds same false (Some x) others h = refl
known_adds true false None others h = absurd (false≢true (h refl))
known_adds false false None others h = refl

-- a component that is unknown adds its own
unknown_adds : (same local : Bool) (d : Option Declared) (others : Bool) → (same ≡ true → (local || is_some d) ≡ false) →
    (same || (local || (is_none d && others))) ≡ (local || (is_none d && (same || others)))
unknown_adds true true d others h = refl
unknown_adds true false (Some x) others h = absurd (false≢true (sym (h refl)))
unknown_adds true false None others h = refl
unknown_adds false local d others h = refl

known_as : (scope : Scope) (names : Names) (name other : Text) (known : Bool) → is_known scope names other ≡ known → pointwise nat_eq name other ≡ true → is_known scope names name ≡ known
known_as scope names name other known h same = ap (is_known scope names) (same_text name other same) ∙ h

pub local_index : (scope : Scope) (names : Names) (name : Text) (items : List Expr) →
    is_local (filter_map (bound_name scope names) items ++ names) name ≡ (is_local names name || (is_none (kind_of_name scope name) && list_any (λ item. binds name (bare_name item)) items))
local_index scope names name [] = none (is_local names name) (kind_of_name scope name)
  where
    none : (local : Bool) (d : Option Declared) → local ≡ (local || (is_none d && false))
    none true d = refl
    none false None = refl
    none false (Some x) = refl
local_index scope names name (item ∷ items) = at_bare (bare_name item) refl (local_index scope names name items)
  where
    at_known : (other : Text) (known : Bool) → bare_name item ≡ Some other → is_known scope names other ≡ known →
        is_local (filter_map (bound_name scope names) items ++ names) name ≡ (is_local names name || (is_none (kind_of_name scope name) && list_any (λ item. binds name (bare_name item)) items)) →
        is_local (filter_map (bound_name scope names) (item ∷ items) ++ names) name ≡ (is_local names name || (is_none (kind_of_name scope name) && list_any (λ item. binds name (bare_name item)) (item ∷ items)))
    at_known other true is h others = rw (is, h) (others ∙ known_adds (pointwise nat_eq name other) (is_local names name) (kind_of_name scope name) _ (known_as scope names name other true h))
    at_known other false is h others =
        rw (is, h)
        (ap (λ (b : Bool). pointwise nat_eq name other || b) others ∙ unknown_adds (pointwise nat_eq name other) (is_local names name) (kind_of_name scope name) _ (known_as scope names name other false h))

    at_bare : (bare : Option Text) → bare_name item ≡ bare →
        is_local (filter_map (bound_name scope names) items ++ names) name ≡ (is_local names name || (is_none (kind_of_name scope name) && list_any (λ item. binds name (bare_name item)) items)) →
        is_local (filter_map (bound_name scope names) (item ∷ items) ++ names) name ≡ (is_local names name || (is_none (kind_of_name scope name) && list_any (λ item. binds name (bare_name item)) (item ∷ items)))
    at_bare None is others = rw is others
    at_bare (Some other) is others = at_known other (is_known scope names other) is refl others

pub names-Nothing : (scope : Scope) → names_in scope Nothing ≡ []
names-Nothing scope = search (rules, the_lemmas)

pub names-Index : (scope : Scope) (items : Bor (List Expr)) (outer : Bor Around) → names_in scope (Index items outer) ≡ filter_map (bound_name scope (names_in scope outer.now)) items.now ++ names_in scope outer.now
names-Index scope items outer = search (rules, the_lemmas)

-- the same of what an index binds, as it is held
pub has_index : (scope : Scope) (items : Bor (List Expr)) (outer : Bor Around) (name : Text) →
    is_local (names_in scope (Index items outer)) name ≡ (is_local (names_in scope outer.now) name || (is_none (kind_of_name scope name) && list_any (λ item. binds name (bare_name item)) items.now))
has_index scope items outer name = ap (λ (names : Names). is_local names name) (names-Index scope items outer) ∙ local_index scope (names_in scope outer.now) name items.now

-- the parameters of a function, by their names
any_name : (name : Text) (parameters : List (Place × Text)) → is_local (map (λ x. x.1) parameters) name ≡ list_any (λ (parameter : Place × Text). pointwise nat_eq name parameter.1) parameters
any_name name [] = refl
any_name name (parameter ∷ parameters) = ap (λ (b : Bool). pointwise nat_eq name parameter.1 || b) (any_name name parameters)

pub names-Parameters : (scope : Scope) (parameters : Bor (List (Place × Text))) → names_in scope (Parameters parameters) ≡ map (λ x. x.1) parameters.now
names-Parameters scope parameters = search (rules, the_lemmas)

pub has_parameter : (scope : Scope) (parameters : Bor (List (Place × Text))) (name : Text) →
    is_local (names_in scope (Parameters parameters)) name ≡ list_any (λ (parameter : Place × Text). pointwise nat_eq name parameter.1) parameters.now
has_parameter scope parameters name = ap (λ (names : Names). is_local names name) (names-Parameters scope parameters) ∙ any_name name parameters.now

pub bound_by_it : (scope : Scope) (around : Around) (items : Bor (List Expr)) (outer : Bor Around) (name : Text) → around ≡ Index items outer →
    is_local (names_in scope outer.now) name ≡ false → is_some (kind_of_name scope name) ≡ false → is_local (names_in scope around) name ≡ list_any (λ item. binds name (bare_name item)) items.now
bound_by_it scope around items outer name is outside new =
    ap (λ (a : Around). is_local (names_in scope a) name) is ∙ has_index scope items outer name ∙ (λ i. outside i || (not (new i) && list_any (λ item. binds name (bare_name item)) items.now))

pub not_bound : (scope : Scope) (around : Around) (items : Bor (List Expr)) (outer : Bor Around) (name : Text) → around ≡ Index items outer →
    is_local (names_in scope outer.now) name ≡ false → is_some (kind_of_name scope name) ≡ true → is_local (names_in scope around) name ≡ false
not_bound scope around items outer name is outside known =
    ap (λ (a : Around). is_local (names_in scope a) name) is ∙ has_index scope items outer name ∙ (λ i. outside i || (not (known i) && list_any (λ item. binds name (bare_name item)) items.now))
