-- What a speller put part by part is the join of the parts: `c.put_word.ensures ▸ c.spell.ensures`, in the order of the code.
-- A loop keeps `Spells l.initial.to l.to (flat_map text (take l.x-index l.xs))`: `Spells-nothing` begins it, and `Spells-next` goes on.
use Rattle.std.proofs.Common.{◌≡◌, ℕ, ◌+◌, ◌<◌, List, [], ◌∷◌, ◌++◌, map, length, take, get_or, Option, None, Some, Result, Ok, Err, refl, sym, ap, ◌∙◌, subst, append_assoc}
use Rattle.std.specs.Prelude.{⊤, IsOk, IfOk, OnOk}
use Rattle.std.specs.List.{flat_map}
use Rattle.std.proofs.lemmas.List.{take_more, append-nil, map-append}
use Rattle.std.proofs.lemmas.Grind.{flat_map-append}
use Rattle.zim_fault.specs.declared.memory.Memory.{Memory}
use Rattle.zim_fault.specs.declared.tokens.Token.{Token}
use Rattle.zim_spelling.specs.declared.speller.Speller.{Speller}
use Rattle.zim_fault.specs.declared.words.Word.TheVariants.{WBy, WElse}
use Rattle.zim_tree.specs.Spelling.{Tokens, by_part, else_part}
use Rattle.zim_spelling.specs.Speller.{Spells, behind}

nothing_before : (r : Result ⊤ Memory) → OnOk r (IsOk r)
nothing_before (Ok _) = refl
nothing_before (Err _) = tt

nothing_tokens : (r : Result ⊤ Memory) (tokens : Tokens) → OnOk r (tokens ≡ tokens ++ [])
nothing_tokens (Ok _) tokens = sym (append-nil tokens)
nothing_tokens (Err _) tokens = tt

-- nothing put is an empty part
pub Spells-nothing : (s : Speller) → Spells s s []
Spells-nothing s = record { before = nothing_before s.outcome; tokens = nothing_tokens s.outcome s.tokens }

both_before : (o p q : Result ⊤ Memory) → OnOk p (IsOk o) → OnOk q (IsOk p) → OnOk q (IsOk o)
both_before o p (Err _) first second = tt
both_before o (Ok _) (Ok _) first second = first
both_before o (Err _) (Ok _) first second = cc

both_tokens : (p q : Result ⊤ Memory) (s t u x y : Tokens) → OnOk q (IsOk p) → OnOk p (t ≡ s ++ x) → OnOk q (u ≡ t ++ y) → OnOk q (u ≡ s ++ (x ++ y))
both_tokens p (Err _) s t u x y is first second = tt
both_tokens (Ok _) (Ok _) s t u x y is first second = second ∙ ap (λ z. z ++ y) first ∙ append_assoc s x y
both_tokens (Err _) (Ok _) s t u x y is first second = cc

infixr 20 ◌▸◌
-- a part and then another
pub ◌▸◌ : {a b c : Speller} {x y : Tokens} → Spells a b x → Spells b c y → Spells a c (x ++ y)
◌▸◌ {a} {b} {c} {x} {y} p q = record {
  before = both_before a.outcome b.outcome c.outcome p.before q.before;
  tokens = both_tokens b.outcome c.outcome a.tokens b.tokens c.tokens x y q.before p.tokens q.tokens;
}

-- the parts of one member more
flat_map-next : {X : Type 0} (text : X → Tokens) (parts : List X) (i : ℕ) (d : X) → i < length parts →
    flat_map text (take (i + 1) parts) ≡ flat_map text (take i parts) ++ text (get_or parts i d)
flat_map-next text parts i d within =
    ap (flat_map text) (take_more parts i d within) ∙ flat_map-append text (take i parts) (get_or parts i d ∷ [])
    ∙ ap (λ t. flat_map text (take i parts) ++ t) (append-nil (text (get_or parts i d)))

-- one member more of a list whose parts are put in order
pub Spells-next : {X : Type 0} {a b c : Speller} (text : X → Tokens) (parts : List X) (i : ℕ) (d : X) → i < length parts →
    Spells a b (flat_map text (take i parts)) → Spells b c (text (get_or parts i d)) → Spells a c (flat_map text (take (i + 1) parts))
Spells-next {X} {a} {b} {c} text parts i d within before part =
    subst (λ t. Spells a c t) (sym (flat_map-next text parts i d within)) (before ▸ part)

-- the tokens of a speller that began with none and put a text
finished_tokens : (p : Result ⊤ Memory) (s t x made : Tokens) → s ≡ [] → OnOk p (t ≡ s ++ x) → IsOk p → made ≡ t → made ≡ x
finished_tokens (Ok _) s t x made none put is same = same ∙ put ∙ ap (λ z. z ++ x) none
finished_tokens (Err _) s t x made none put is same = cc

-- what a speller that began with no tokens has made in the end
pub finished : {a b : Speller} {x : Tokens} {E : Type 0} (r : Result (List Token) E) → a.tokens ≡ [] → Spells a b x →
    IfOk r (λ made. IsOk b.outcome × (made ≡ b.tokens)) → IfOk r (λ made. made ≡ x)
finished {a} {b} {x} (Ok made) none put is = finished_tokens b.outcome a.tokens b.tokens x made none put.tokens is.0 is.1
finished (Err _) none put is = tt

-- a part is what it computes to
pub given : {a c : Speller} {x y : Tokens} → Spells a c x → x ≡ y → Spells a c y
given {a} {c} h e = subst (Spells a c) e h

-- the parts of one member more, where each part is made of what a function makes of the member
flat_map-map-next : {X Y : Type 0} (part : Y → Tokens) (f : X → Y) (xs : List X) (i : ℕ) (x : X) → i < length xs → x ≡ get_or xs i x →
    flat_map part (map f (take (i + 1) xs)) ≡ flat_map part (map f (take i xs)) ++ part (f x)
flat_map-map-next part f xs i x within is =
    ap (flat_map part) (ap (map f) (take_more xs i x within) ∙ map-append f (take i xs) (get_or xs i x ∷ []))
    ∙ flat_map-append part (map f (take i xs)) (f (get_or xs i x) ∷ [])
    ∙ ap (λ t. flat_map part (map f (take i xs)) ++ t) (append-nil (part (f (get_or xs i x))) ∙ ap (λ y. part (f y)) (sym is))

-- one member more of such a list
pub Spells-next-map : {X Y : Type 0} {a b c : Speller} (part : Y → Tokens) (f : X → Y) (xs : List X) (i : ℕ) (x : X) → i < length xs → x ≡ get_or xs i x →
    Spells a b (flat_map part (map f (take i xs))) → Spells b c (part (f x)) → Spells a c (flat_map part (map f (take (i + 1) xs)))
Spells-next-map {X} {Y} {a} {b} {c} part f xs i x within is before last =
    subst (λ t. Spells a c t) (sym (flat_map-map-next part f xs i x within is)) (before ▸ last)

-- the same, with the member itself
pub Spells-next-item : {X : Type 0} {a b c : Speller} (text : X → Tokens) (parts : List X) (i : ℕ) (x : X) → i < length parts → x ≡ get_or parts i x →
    Spells a b (flat_map text (take i parts)) → Spells b c (text x) → Spells a c (flat_map text (take (i + 1) parts))
Spells-next-item {X} {a} {b} {c} text parts i x within is before part =
    Spells-next text parts i x within before (subst (λ y. Spells b c (text y)) is part)

-- `else` and a part
pub else_behind : (part : Option Tokens) → else_part part ≡ behind WElse part
else_behind None = refl
else_behind (Some part) = refl

-- `by` and a step
pub by_behind : (part : Option Tokens) → by_part part ≡ behind WBy part
by_behind None = refl
by_behind (Some part) = refl
