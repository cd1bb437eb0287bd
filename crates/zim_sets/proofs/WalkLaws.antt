-- The walk that lists the choices of n tuples in lexicographic order of their positions: what is still to come at
-- each of its steps, and that it ends.
use Rattle.std.proofs.Common.{ℕ, zero, suc, ◌≡◌, ◌≤◌, ◌<◌, ◌+◌, ◌-◌, true, false, cond, nat_eq, List, [], ◌∷◌, ◌++◌, length, map, drop, Some, ◌⊎◌, inl, inr, refl, sym, ap, subst, ◌∙◌, arith, append_assoc, append-nil, length-append, eq-eqb, length-drop}
use Rattle.std.proofs.lemmas.Bool.{eqb-true}
use Rattle.std.proofs.lemmas.Grind.{flat_map-append}
use Rattle.std.proofs.lemmas.List.{map-append}
use Rattle.std.specs.List.{AllByRecursion, slice_get}
use Rattle.std.specs.Option.{option_to_list}
use Rattle.zim_sets.proofs.ChoiceLaws.{choices-zero, choices-cons, choices_none}
use Rattle.zim_sets.specs.Choices.{item_at, items_at, choices}
use Rattle.zim_sets.specs.Sets.{IsSet}
use Rattle.zim_tuples.specs.declared.elements.Elem.{Elem}

-- the choices that begin with the chosen tuples and go on past a position
abbrev pub ahead : List (List Elem) → ℕ → List ℕ → ℕ → List (List (List Elem))
ahead a n chosen passed = map (λ rest. items_at a chosen ++ rest) (choices (n - length chosen) (drop passed a))

-- those that follow when all that begin with the chosen tuples are listed
unfoldable pub later : List (List Elem) → ℕ → List ℕ → List ℕ → List (List (List Elem))
later a n front [] = []
later a n front (p ∷ chosen) = later a n (front ++ p ∷ []) chosen ++ ahead a n front p

-- all that is still to come
abbrev pub still : List (List Elem) → ℕ → List ℕ → ℕ → List (List (List Elem))
still a n chosen passed = ahead a n chosen passed ++ later a n [] chosen

-- the chosen tuples where they are n
abbrev pub whole_choice : List (List Elem) → ℕ → List ℕ → List (List (List Elem))
whole_choice a n chosen = cond (nat_eq (length chosen) n) (items_at a chosen ∷ []) []

pub later_last : (a : List (List Elem)) (n : ℕ) (front chosen : List ℕ) (p : ℕ) → later a n front (chosen ++ p ∷ []) ≡ ahead a n (front ++ chosen) p ++ later a n front chosen
unfolding later
later_last a n front [] p = sym (append-nil (ahead a n (front ++ []) p) ∙ ap (λ f. ahead a n f p) (append-nil front))
later_last a n front (b ∷ chosen) p =
    ap (λ l. l ++ ahead a n front b) (later_last a n (front ++ b ∷ []) chosen p)
    ∙ append_assoc (ahead a n ((front ++ b ∷ []) ++ chosen) p) (later a n (front ++ b ∷ []) chosen) (ahead a n front b)
    ∙ ap (λ f. ahead a n f p ++ (later a n (front ++ b ∷ []) chosen ++ ahead a n front b)) (append_assoc front (b ∷ []) chosen)

pub later_none : (a : List (List Elem)) (n : ℕ) → later a n [] [] ≡ []
unfolding later
later_none a n = refl

step_at : {X : Type 0} (a : List X) (q : ℕ) → q < length a → (x : X) × (drop q a ≡ x ∷ drop (suc q) a) × (slice_get a q ≡ Some x)
step_at [] q within = absurd (omega arith)
step_at (y ∷ a) zero within = (y, refl, refl)
step_at (y ∷ a) (suc q) within = step_at a q (omega arith)

items_last : (a : List (List Elem)) (chosen : List ℕ) (q : ℕ) (x : List Elem) → slice_get a q ≡ Some x → items_at a (chosen ++ suc q ∷ []) ≡ items_at a chosen ++ x ∷ []
items_last a chosen q x here =
    flat_map-append (λ position. option_to_list (item_at a position)) chosen (suc q ∷ []) ∙ ap (λ o. items_at a chosen ++ (option_to_list o ++ [])) here

map_after : (front : List (List Elem)) (x : List Elem) (cs : List (List (List Elem))) → map (λ rest. front ++ rest) (map (λ rest. x ∷ rest) cs) ≡ map (λ rest. (front ++ x ∷ []) ++ rest) cs
map_after front x [] = refl
map_after front x (c ∷ cs) = λ i. sym (append_assoc front (x ∷ []) c) i ∷ map_after front x cs i

-- one tuple more is chosen, or it is passed
pub descend : (a : List (List Elem)) (n : ℕ) (chosen : List ℕ) (q k : ℕ) → q < length a → n - length chosen ≡ suc k → ahead a n chosen q ≡ ahead a n (chosen ++ suc q ∷ []) (suc q) ++ ahead a n chosen (suc q)
descend a n chosen q k within wanted =
    let s = step_at a q within in
    let front = items_at a chosen in
    let rest = drop (suc q) a in
    let fewer : n - length (chosen ++ suc q ∷ []) ≡ k = omega (arith, length-append chosen (suc q ∷ [])) in
    let last = items_last a chosen q s.0 s.2 in
    (λ i. map (λ r. front ++ r) (choices (wanted i) (s.1 i)))
    ∙ ap (λ cs. map (λ r. front ++ r) cs) (choices-cons k s.0 rest)
    ∙ map-append (λ r. front ++ r) (map (λ r. s.0 ∷ r) (choices k rest)) (choices (suc k) rest)
    ∙ (λ i. map_after front s.0 (choices k rest) i ++ map (λ r. front ++ r) (choices (sym wanted i) rest))
    ∙ (λ i. map (λ r. sym last i ++ r) (choices (sym fewer i) rest) ++ ahead a n chosen (suc q))

pub still_down : (a : List (List Elem)) (n : ℕ) (chosen : List ℕ) (q k : ℕ) → q < length a → n - length chosen ≡ suc k → still a n (chosen ++ suc q ∷ []) (suc q) ≡ still a n chosen q
still_down a n chosen q k within wanted =
    let here = ahead a n (chosen ++ suc q ∷ []) (suc q) in
    ap (λ l. here ++ l) (later_last a n [] chosen (suc q))
    ∙ sym (append_assoc here (ahead a n chosen (suc q)) (later a n [] chosen))
    ∙ ap (λ l. l ++ later a n [] chosen) (sym (descend a n chosen q k within wanted))

unequal : (m n : ℕ) → m < n → nat_eq m n ≡ false
unequal m n less = (elim (nat_eq m n) as (λ b. nat_eq m n ≡ b → b ≡ false) [ true ↦ λ e. absurd (let same : m ≡ n = eqb-true m n e in omega arith) | false ↦ λ e. refl ]) refl

-- no further tuple is chosen after these: they are n, or too few are left
pub still_closed : (a : List (List Elem)) (n : ℕ) (chosen : List ℕ) (q : ℕ) → length chosen ≤ n → (n - length chosen ≡ 0) ⊎ (length a - q < n - length chosen) → still a n chosen q ≡ whole_choice a n chosen ++ later a n [] chosen
still_closed a n chosen q within (inl none) =
    let equal : length chosen ≡ n = omega arith in
    let full : whole_choice a n chosen ≡ items_at a chosen ∷ [] = ap (λ b. cond b (items_at a chosen ∷ []) []) (eq-eqb (length chosen) n equal) in
    ap (λ l. l ++ later a n [] chosen)
    ((λ i. map (λ r. items_at a chosen ++ r) (choices (none i) (drop q a))) ∙ ap (λ cs. map (λ r. items_at a chosen ++ r) cs) (choices-zero (drop q a)) ∙ ap (λ c. c ∷ []) (append-nil (items_at a chosen)) ∙ sym full)
still_closed a n chosen q within (inr short) =
    let open_ended : whole_choice a n chosen ≡ [] = ap (λ b. cond b (items_at a chosen ∷ []) []) (unequal (length chosen) n (omega arith)) in
    ap (λ l. l ++ later a n [] chosen)
    (ap (λ cs. map (λ r. items_at a chosen ++ r) cs) (choices_none (n - length chosen) (drop q a) (omega (arith, length-drop q a))) ∙ sym open_ended)

map_same : (cs : List (List (List Elem))) → map (λ rest. [] ++ rest) cs ≡ cs
map_same [] = refl
map_same (c ∷ cs) = ap (λ rest. c ∷ rest) (map_same cs)

pub still_begins : (a : List (List Elem)) (n : ℕ) → still a n [] 0 ≡ choices n a
unfolding later
still_begins a n =
    append-nil (ahead a n [] 0) ∙ map_same (choices (n - 0) (drop 0 a)) ∙ ap (λ k. choices k a) (let all : n - 0 ≡ n = omega arith in all)

-- what is chosen when it is n tuples comes next
pub choice_is_set : (a : List (List Elem)) (n : ℕ) (chosen : List ℕ) (q : ℕ) → AllByRecursion IsSet (still a n chosen q) → length chosen ≡ n → IsSet (items_at a chosen)
choice_is_set a n chosen q sets full =
    let closed = still_closed a n chosen q (omega arith) (inl (let none : n - length chosen ≡ 0 = omega arith in none)) in
    let whole : whole_choice a n chosen ++ later a n [] chosen ≡ items_at a chosen ∷ later a n [] chosen = ap (λ b. cond b (items_at a chosen ∷ []) [] ++ later a n [] chosen) (eq-eqb (length chosen) n full) in
    (subst (λ (s : List (List (List Elem))). AllByRecursion IsSet s) (closed ∙ whole) sets).0

all_of_later : (P : List (List Elem) → Type 0) (front back : List (List (List Elem))) → AllByRecursion P (front ++ back) → AllByRecursion P back
all_of_later P [] back all = all
all_of_later P (x ∷ front) back all = all_of_later P front back all.1

pub later_sets : (a : List (List Elem)) (n : ℕ) (chosen : List ℕ) (q : ℕ) → AllByRecursion IsSet (still a n chosen q) → AllByRecursion IsSet (later a n [] chosen)
later_sets a n chosen q sets = all_of_later IsSet (ahead a n chosen q) (later a n [] chosen) sets

-- how many steps the walk has from a place where so many tuples are wanted of so many that are left
unfoldable pub cost : ℕ → ℕ → ℕ
cost zero left = 1
cost (suc wanted) zero = 1
cost (suc wanted) (suc left) = 1 + (cost wanted left + cost (suc wanted) left)

unfoldable pub later_cost : ℕ → ℕ → ℕ → List ℕ → ℕ
later_cost n size depth [] = 0
later_cost n size depth (p ∷ chosen) = later_cost n size (suc depth) chosen + cost (n - depth) (size - p)

abbrev pub still_cost : ℕ → ℕ → List ℕ → ℕ → ℕ
still_cost n size chosen passed = cost (n - length chosen) (size - passed) + later_cost n size 0 chosen

cost_some : (wanted left : ℕ) → 0 < cost wanted left
unfolding cost
cost_some zero left = omega arith
cost_some (suc wanted) zero = omega arith
cost_some (suc wanted) (suc left) = omega arith

cost_step : (wanted left : ℕ) → cost (suc wanted) (suc left) ≡ 1 + (cost wanted left + cost (suc wanted) left)
unfolding cost
cost_step wanted left = refl

later_cost_last : (n size depth : ℕ) (chosen : List ℕ) (p : ℕ) → later_cost n size depth (chosen ++ p ∷ []) ≡ cost (n - (depth + length chosen)) (size - p) + later_cost n size depth chosen
unfolding later_cost
later_cost_last n size depth [] p =
    let same : n - depth ≡ n - (depth + 0) = omega arith in
    let one = ap (λ k. cost k (size - p)) same in
    omega arith
later_cost_last n size depth (b ∷ chosen) p =
    let rest = later_cost_last n size (suc depth) chosen p in
    let same : n - (suc depth + length chosen) ≡ n - (depth + suc (length chosen)) = omega arith in
    let one = ap (λ k. cost k (size - p)) same in
    omega arith

same_depth : (n : ℕ) (chosen : List ℕ) (k : ℕ) → n - length chosen ≡ k → n - (0 + length chosen) ≡ k
same_depth n chosen k wanted = omega arith

pub down_smaller : (n size : ℕ) (chosen : List ℕ) (q k : ℕ) → q < size → n - length chosen ≡ suc k → still_cost n size (chosen ++ suc q ∷ []) (suc q) < still_cost n size chosen q
down_smaller n size chosen q k within wanted =
    let m = size - suc q in
    let left : size - q ≡ suc m = omega arith in
    let fewer : n - length (chosen ++ suc q ∷ []) ≡ k = omega (arith, length-append chosen (suc q ∷ [])) in
    let before : cost (n - length chosen) (size - q) ≡ 1 + (cost k m + cost (suc k) m) = (λ i. cost (wanted i) (left i)) ∙ cost_step k m in
    let after : cost (n - length (chosen ++ suc q ∷ [])) (size - suc q) ≡ cost k m = (λ i. cost (fewer i) m) in
    let last : later_cost n size 0 (chosen ++ suc q ∷ []) ≡ cost (suc k) m + later_cost n size 0 chosen = later_cost_last n size 0 chosen (suc q) ∙ (λ i. cost (same_depth n chosen (suc k) wanted i) m + later_cost n size 0 chosen) in
    omega arith

pub up_smaller : (n size : ℕ) (chosen before : List ℕ) (p q : ℕ) → chosen ≡ before ++ p ∷ [] → still_cost n size before p < still_cost n size chosen q
up_smaller n size chosen before p q last =
    let some = cost_some (n - length chosen) (size - q) in
    let same : later_cost n size 0 chosen ≡ cost (n - length before) (size - p) + later_cost n size 0 before = ap (later_cost n size 0) last ∙ later_cost_last n size 0 before p ∙ (λ i. cost (same_depth n before (n - length before) refl i) (size - p) + later_cost n size 0 before) in
    omega arith

-- the whole stays the whole when the chosen tuples are listed and what follows is still to come
pub listed_then_later : (a : List (List Elem)) (n : ℕ) (chosen : List ℕ) (q : ℕ) (family next all : List (List (List Elem))) → length chosen ≤ n → (n - length chosen ≡ 0) ⊎ (length a - q < n - length chosen) → next ≡ family ++ whole_choice a n chosen → family ++ still a n chosen q ≡ all → next ++ later a n [] chosen ≡ all
listed_then_later a n chosen q family next all within closed more listed =
    ap (λ f. f ++ later a n [] chosen) more
    ∙ append_assoc family (whole_choice a n chosen) (later a n [] chosen)
    ∙ ap (λ rest. family ++ rest) (sym (still_closed a n chosen q within closed))
    ∙ listed
