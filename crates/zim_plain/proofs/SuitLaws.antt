-- Which items and lists suit declared names, item by item.
use Rattle.std.proofs.Common.{ℕ, zero, suc, ◌≡◌, ◌+◌, drop, get_or, ◌<◌, ◌≤◌, ◌↔◌, Bool, true, false, IsTrue, List, [], ◌∷◌, map, length, Option, Some, None, arith, refl, sym, ap, subst, ◌∙◌, Contains}
use Rattle.std.specs.List.{AllByRecursion}
use Rattle.std.specs.Option.{is_some}
use Rattle.zim_plain.specs.Statements.{WrittenText, Item, Constant, Multiple, Further, Sum, signed_items}
use Rattle.zim_plain.specs.Suits.{SuitsItem, SuitsSum}
use Rattle.zim_plain.specs.Systems.{place_of}
use Rattle.zim_plain.specs.declared.statement.Further as code
use Rattle.zim_plain.specs.Reader.{item_of, further_of}
use Rattle.zim_plain.specs.Sides.{IsDeclared, SuitsNumbers, SuitOthers}
use Rattle.zim_plain.proofs.Places.{at_place, no_place, place_contains}

-- ---- names

pub place_declared : (names : List WrittenText) (name : WrittenText) (o : Option ℕ) (b : Bool) → o ≡ place_of names name → b ≡ is_some o → IsTrue b ↔ Contains names name
place_declared names name (Some p) b e is = (λ t. place_contains names name p (sym e), λ h. is)
place_declared names name None b e is = (λ t. let no : true ≡ false = sym t ∙ is in cc, λ h. absurd (no_place names name (sym e) h))

pub place_below : (names : List WrittenText) (name : WrittenText) (p : ℕ) → Some p ≡ place_of names name → p < length names
place_below names name p e = (at_place names name p name (sym e)).0

-- ---- items

-- the sign makes no difference
pub any_sign : (names : List WrittenText) (negative other : Bool) (item : Item) → SuitsItem names (negative, item) → SuitsItem names (other, item)
any_sign names negative other (Constant c) h = h
any_sign names negative other (Multiple factor place name) h = h

pub item_from : (names : List WrittenText) (negative : Bool) (item : Item) → SuitsNumbers item → IsDeclared names item → SuitsItem names (negative, item)
item_from names negative (Constant c) h k = h
item_from names negative (Multiple factor place name) h k = (h, k)

pub item_numbers : (names : List WrittenText) (negative : Bool) (item : Item) → SuitsItem names (negative, item) → SuitsNumbers item
item_numbers names negative (Constant c) h = h
item_numbers names negative (Multiple factor place name) h = h.0

pub item_declared : (names : List WrittenText) (negative : Bool) (item : Item) → SuitsItem names (negative, item) → IsDeclared names item
item_declared names negative (Constant c) h = tt
item_declared names negative (Multiple factor place name) h = h.1

-- ---- lists

abbrev pub pair_of : Further → Bool × Item
pair_of f = (f.sign.negative, f.item)

plain_from : (names : List WrittenText) (items : List (Bool × Item)) → AllByRecursion (λ (i : Bool × Item). SuitsItem names (false, i.1)) items → AllByRecursion (SuitsItem names) items
plain_from names [] h = tt
plain_from names (i ∷ is) h = (any_sign names false i.0 i.1 h.0, plain_from names is h.1)

plain_of : (names : List WrittenText) (items : List (Bool × Item)) → AllByRecursion (SuitsItem names) items → AllByRecursion (λ (i : Bool × Item). SuitsItem names (false, i.1)) items
plain_of names [] h = tt
plain_of names (i ∷ is) h = (any_sign names i.0 false i.1 h.0, plain_of names is h.1)

others_from : (names : List WrittenText) (others : List Further) → SuitOthers names others → AllByRecursion (λ (i : Bool × Item). SuitsItem names (false, i.1)) (map pair_of others)
others_from names [] h = tt
others_from names (f ∷ fs) h = (h.0, others_from names fs h.1)

others_of : (names : List WrittenText) (others : List Further) → AllByRecursion (λ (i : Bool × Item). SuitsItem names (false, i.1)) (map pair_of others) → SuitOthers names others
others_of names [] h = tt
others_of names (f ∷ fs) h = (h.0, others_of names fs h.1)

pub sum_from : (names : List WrittenText) (sum : Sum) → SuitsItem names (false, sum.first) → SuitOthers names sum.others → SuitsSum names sum
sum_from names sum h k = plain_from names (signed_items sum) (h, others_from names sum.others k)

pub sum_first : (names : List WrittenText) (sum : Sum) → SuitsSum names sum → SuitsItem names (false, sum.first)
sum_first names sum h = (plain_of names (signed_items sum) h).0

pub sum_others : (names : List WrittenText) (sum : Sum) → SuitsSum names sum → SuitOthers names sum.others
sum_others names sum h = others_of names sum.others ((plain_of names (signed_items sum) h).1)

-- ---- a list of further items, as far as it is tested

-- the rest of a list from a member on
pub drop_item : {X : Type 0} (xs : List X) (i : ℕ) (d : X) → i < length xs → get_or xs i d ≡ d → drop i xs ≡ d ∷ drop (i + 1) xs
drop_item [] i d l e = absurd (omega arith)
drop_item (x ∷ xs) zero d l e = ap (λ y. y ∷ xs) e
drop_item (x ∷ xs) (suc i) d l e = let more : suc i + 1 ≡ suc (i + 1) = omega arith in rw more (drop_item xs i d (omega arith) e)

pub drop_end : {X : Type 0} (xs : List X) (i : ℕ) → length xs ≤ i → drop i xs ≡ []
drop_end [] zero l = refl
drop_end [] (suc i) l = refl
drop_end (x ∷ xs) zero l = absurd (omega arith)
drop_end (x ∷ xs) (suc i) l = drop_end xs i (omega arith)

-- all suit exactly where the rest does
abbrev pub IsTesting : List WrittenText → List code.Further → ℕ → Type 0
IsTesting names all i = SuitOthers names (map further_of all) ↔ SuitOthers names (map further_of (drop i all))

pub test_step : (names : List WrittenText) (all : List code.Further) (i : ℕ) (f : code.Further) → IsTesting names all i → i < length all → get_or all i f ≡ f → SuitsItem names (false, item_of f.item) → IsTesting names all (i + 1)
test_step names all i f t l e suits =
    let at : SuitOthers names (map further_of all) ↔ SuitOthers names (map further_of (f ∷ drop (i + 1) all)) =
    subst (λ (fs : List code.Further). SuitOthers names (map further_of all) ↔ SuitOthers names (map further_of fs)) (drop_item all i f l e) t in
    (λ h. (at.0 h).1, λ h. at.1 (suits, h))

pub test_stop : (names : List WrittenText) (all : List code.Further) (i : ℕ) (f : code.Further) → IsTesting names all i → i < length all → get_or all i f ≡ f → ¬ SuitsItem names (false, item_of f.item) → ¬ SuitOthers names (map further_of all)
test_stop names all i f t l e other h =
    let at : SuitOthers names (map further_of all) ↔ SuitOthers names (map further_of (f ∷ drop (i + 1) all)) =
    subst (λ (fs : List code.Further). SuitOthers names (map further_of all) ↔ SuitOthers names (map further_of fs)) (drop_item all i f l e) t in
    other ((at.0 h).0)

pub test_end : (names : List WrittenText) (all : List code.Further) (i : ℕ) → IsTesting names all i → length all ≤ i → SuitOthers names (map further_of all)
test_end names all i t l =
    let at : SuitOthers names (map further_of all) ↔ SuitOthers names [] =
    subst (λ (fs : List code.Further). SuitOthers names (map further_of all) ↔ SuitOthers names (map further_of fs)) (drop_end all i l) t in
    at.1 tt
