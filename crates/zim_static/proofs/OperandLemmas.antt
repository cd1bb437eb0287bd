-- Loops over operands.
use Rattle.std.proofs.Common.{◌≡◌, ℕ, ◌+◌, ◌<◌, ◌≤◌, Bool, true, false, not, ◌&&◌, ◌||◌, List, [], ◌∷◌, length, get_or, drop, refl, sym, ap, ◌∙◌}
use Rattle.std.proofs.lemmas.List.{drop_all}
use Rattle.zim_fault.specs.declared.faults.Place.{Place}
use Rattle.zim_fault.specs.declared.tokens.Token.{Token}
use Rattle.zim_tree.specs.declared.expr.Expr.{Expr}
use Rattle.zim_typed.specs.Scope.{Scope}
use Rattle.zim_static.specs.Faults.{Part, part_of, known_operands, is_by_stars, multiplies}
use Rattle.zim_static.proofs.ListLemmas.{left_from}

stars_end : (before : Bool) → is_by_stars before [] ≡ true
unfolding is_by_stars
stars_end before = refl

stars_first : (before : Bool) (place : Place) (token : Token) (part : Part) (others : List (Place × Token × Part)) →
    is_by_stars before ((place, token, part) ∷ others) ≡ ((not (before || part.varies) || multiplies token) && is_by_stars (before || part.varies) others)
unfolding is_by_stars
stars_first before place token part others = refl

-- the first operand that is left may stand there, and what is left behind it tells the same
stars_left : (scope : Scope) (others : List (Place × Token × Expr)) (i : ℕ) (x : Place × Token × Expr) (before now may whole : Bool) → i < length others → x ≡ get_or others i x →
    now ≡ (before || (part_of scope x.2).varies) → may ≡ (not now || multiplies x.1) → is_by_stars before (known_operands scope (drop i others)) ≡ whole →
    (may && is_by_stars now (known_operands scope (drop (i + 1) others))) ≡ whole
stars_left scope others i x before now may whole within is so fits h =
    (λ j. (fits ∙ (λ k. not (so k) || multiplies x.1)) j && is_by_stars (so j) (known_operands scope (drop (i + 1) others)))
    ∙ sym (stars_first before x.0 x.1 (part_of scope x.2) (known_operands scope (drop (i + 1) others)))
    ∙ sym (ap (λ (xs : List (Place × Token × Expr)). is_by_stars before (known_operands scope xs)) (left_from others i x within is)) ∙ h

pub stars_next : (scope : Scope) (others : List (Place × Token × Expr)) (i : ℕ) (x : Place × Token × Expr) (before now may whole : Bool) → i < length others → x ≡ get_or others i x →
    now ≡ (before || (part_of scope x.2).varies) → may ≡ (not now || multiplies x.1) → may ≡ true → is_by_stars before (known_operands scope (drop i others)) ≡ whole →
    is_by_stars now (known_operands scope (drop (i + 1) others)) ≡ whole
stars_next scope others i x before now may whole within is so fits holds h =
    sym (ap (λ (b : Bool). b && is_by_stars now (known_operands scope (drop (i + 1) others))) holds) ∙ stars_left scope others i x before now may whole within is so fits h

pub stars_refused : (scope : Scope) (others : List (Place × Token × Expr)) (i : ℕ) (x : Place × Token × Expr) (before now may whole : Bool) → i < length others → x ≡ get_or others i x →
    now ≡ (before || (part_of scope x.2).varies) → may ≡ (not now || multiplies x.1) → may ≡ false → is_by_stars before (known_operands scope (drop i others)) ≡ whole →
    false ≡ whole
stars_refused scope others i x before now may whole within is so fits fails h =
    sym (ap (λ (b : Bool). b && is_by_stars now (known_operands scope (drop (i + 1) others))) fails) ∙ stars_left scope others i x before now may whole within is so fits h

pub stars_ended : (scope : Scope) (others : List (Place × Token × Expr)) (i : ℕ) (before whole : Bool) → length others ≤ i → is_by_stars before (known_operands scope (drop i others)) ≡ whole → true ≡ whole
stars_ended scope others i before whole out h =
    sym (stars_end before) ∙ sym (ap (λ (xs : List (Place × Token × Expr)). is_by_stars before (known_operands scope xs)) (drop_all i others out)) ∙ h
